use Rattle.std.proofs.Common.{length}
use Rattle.sieve_syntax.specs.Arguments.{IsArgument, IsArgumentsEnd}
use Rattle.sieve_syntax.proofs.Chains.{IsSoFar}
use Rattle.sieve_syntax.proofs.parser.argument.read_arguments.Given as goal

abbrev pub invariant-arguments : goal.invariant-arguments
invariant-arguments l = IsSoFar IsArgument IsArgumentsEnd l.initial.reader l.arguments.items l.reader

abbrev pub decreases-arguments : goal.decreases-arguments
decreases-arguments l = length l.reader
