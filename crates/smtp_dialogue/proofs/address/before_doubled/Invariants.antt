-- What was counted stands before the rest.
use Rattle.std.proofs.Common.{◌≡◌, ◌+◌, length}
use Rattle.smtp_dialogue.specs.Addresses.{before_doubled}
use Rattle.smtp_dialogue.proofs.address.before_doubled.Given as goal

abbrev pub invariant-loop-rest : goal.invariant-loop-rest
invariant-loop-rest l = (l.count + before_doubled l.left ≡ before_doubled l.text) × (l.count + length l.left ≡ length l.text)

abbrev pub decreases-loop-rest : goal.decreases-loop-rest
decreases-loop-rest l = length l.left
