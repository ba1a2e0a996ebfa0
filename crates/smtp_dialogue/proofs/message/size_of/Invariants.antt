use Rattle.std.proofs.Common.{length}
use Rattle.smtp_dialogue.proofs.MessageLemmas.{Counts}
use Rattle.smtp_dialogue.proofs.message.size_of.Given as goal

abbrev pub invariant-loop-octet : goal.invariant-loop-octet
invariant-loop-octet l = Counts l.text l.left l.place l.size

abbrev pub decreases-loop-octet : goal.decreases-loop-octet
decreases-loop-octet l = length l.left
