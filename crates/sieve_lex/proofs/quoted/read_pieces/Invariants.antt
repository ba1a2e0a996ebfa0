use Rattle.std.proofs.Common.{◌≡◌, drop}
use Rattle.sieve_lex.specs.Inside.{onto, string_from}
use Rattle.sieve_lex.specs.declared.quoted.Mode.TheVariants.{Inside}
use Rattle.sieve_lex.proofs.quoted.read_pieces.Given as goal

abbrev pub invariant-loop-i : goal.invariant-loop-i
invariant-loop-i l = onto l.value (string_from l.mode (drop l.i l.octets)) ≡ string_from Inside l.octets
