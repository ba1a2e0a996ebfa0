use Rattle.std.proofs.Common.{◌≡◌, ◌+◌, false, length}
use Rattle.mail_address.specs.Reading.{display_opening, pieces}
use Rattle.mail_address.proofs.outbound.opening.Given as goal

abbrev pub invariant-loop-token : goal.invariant-loop-token
invariant-loop-token l = (l.at + length l.rest ≡ length l.text) × (display_opening l.seen l.at (pieces l.rest) ≡ display_opening false 0 (pieces l.text))

abbrev pub decreases-loop-token : goal.decreases-loop-token
decreases-loop-token l = length l.rest
