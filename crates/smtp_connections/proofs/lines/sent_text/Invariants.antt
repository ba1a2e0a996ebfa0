use Rattle.std.proofs.Common.{◌≡◌, ◌++◌, length}
use Rattle.smtp_dialogue.specs.Sent.{left_of, sent_from, sent_start}
use Rattle.smtp_connections.proofs.lines.sent_text.Given as goal

abbrev pub invariant-loop-part : goal.invariant-loop-part
invariant-loop-part l = l.sent ++ left_of l.parts ≡ sent_from sent_start l.text

abbrev pub decreases-loop-part : goal.decreases-loop-part
decreases-loop-part l = length (left_of l.parts)
