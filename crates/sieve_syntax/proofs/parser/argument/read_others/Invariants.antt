use Rattle.std.proofs.Common.{◌≡◌, ℕ, List, ◌++◌, length}
use Rattle.sieve_lex.specs.declared.token.Mark.TheVariants as K
use Rattle.sieve_syntax.specs.Arguments.{IsOther}
use Rattle.sieve_syntax.proofs.Chains.{IsSoFar}
use Rattle.sieve_syntax.proofs.ArgumentLemmas.{IsMarked}
use Rattle.sieve_syntax.proofs.parser.argument.read_others.Given as goal

abbrev pub invariant-others : goal.invariant-others
invariant-others l = (more : List (List ℕ)) × ((l.strings ≡ l.initial.strings ++ more) × IsSoFar IsOther (IsMarked K.CloseBracket) l.initial.reader more l.reader)

abbrev pub decreases-others : goal.decreases-others
decreases-others l = length l.reader
