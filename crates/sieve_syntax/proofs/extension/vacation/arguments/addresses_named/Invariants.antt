use Rattle.std.proofs.Common.{take}
use Rattle.sieve_syntax.specs.Extension.Vacation.{AreNamed}
use Rattle.sieve_syntax.proofs.extension.vacation.arguments.addresses_named.Given as goal

abbrev pub invariant-loop-text : goal.invariant-loop-text
invariant-loop-text l = AreNamed (take l.text-index l.texts) l.addresses
