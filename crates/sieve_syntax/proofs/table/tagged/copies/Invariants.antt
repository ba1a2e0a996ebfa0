use Rattle.std.proofs.Common.{◌≡◌, take}
use Rattle.sieve_syntax.proofs.table.tagged.copies.Given as goal

abbrev pub invariant-loop-string : goal.invariant-loop-string
invariant-loop-string l = l.copies ≡ take l.string-index l.strings
