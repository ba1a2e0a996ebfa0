use Rattle.std.proofs.Common.{◌≡◌, ◌≤◌, length}
use Rattle.mail_head.specs.Heads.{unfold_of}
use Rattle.sieve_vacation.specs.Folds.{after_comma}
use Rattle.sieve_vacation.proofs.value.after_comma.Given as goal

abbrev pub invariant-loop-octet : goal.invariant-loop-octet
invariant-loop-octet l = (after_comma (unfold_of l.rest) ≡ after_comma (unfold_of l.raw)) × (length l.rest ≤ length l.raw)

abbrev pub decreases-loop-octet : goal.decreases-loop-octet
decreases-loop-octet l = length l.rest
