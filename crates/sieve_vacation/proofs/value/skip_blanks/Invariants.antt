use Rattle.std.proofs.Common.{◌≡◌, length}
use Rattle.octets.specs.Ascii.{trim_front}
use Rattle.mail_head.specs.Heads.{unfold_of}
use Rattle.sieve_vacation.proofs.value.skip_blanks.Given as goal

abbrev pub invariant-loop-octet : goal.invariant-loop-octet
invariant-loop-octet l = trim_front (unfold_of l.rest) ≡ trim_front (unfold_of l.raw)

abbrev pub decreases-loop-octet : goal.decreases-loop-octet
decreases-loop-octet l = length l.rest
