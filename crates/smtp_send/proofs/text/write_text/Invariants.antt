use Rattle.std.proofs.Common.{◌++◌, length}
use Rattle.smtp_dialogue.specs.Sent.{left_of, sent_from, sent_start}
use Rattle.smtp_send.specs.Rows.{Rows}
use Rattle.smtp_send.specs.Talks.{SendTalk, Writing}
use Rattle.smtp_send.proofs.text.write_text.Given as goal

abbrev pub invariant-loop-part : goal.invariant-loop-part
invariant-loop-part g l =
    ((rows : Rows) → g.Q.SendQueue.shows l.initial.queue rows → g.Q.SendQueue.shows l.queue rows)
    × ((t : SendTalk) → g.S.Server.said l.initial.server t → (u : SendTalk) × g.S.Server.said l.server u × Writing (sent_from sent_start l.text) t u (l.piece.items ++ left_of l.sent))

abbrev pub decreases-loop-part : goal.decreases-loop-part
decreases-loop-part g l = length (left_of l.sent)
