use Rattle.std.proofs.Common.{◌-◌, length}
use Rattle.smtp_dialogue.specs.Replies.{BeginsReply}
use Rattle.smtp_dialogue.proofs.reply.first_reply.Given as goal

abbrev pub invariant-loop-count : goal.invariant-loop-count
invariant-loop-count l = BeginsReply l.octets l.at l.code

abbrev pub decreases-loop-count : goal.decreases-loop-count
decreases-loop-count l = length l.octets - l.at
