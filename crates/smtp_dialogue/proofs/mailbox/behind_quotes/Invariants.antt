use Rattle.std.proofs.Common.{◌≡◌, false, length}
use Rattle.smtp_dialogue.specs.Mailboxes.{behind_quotes}
use Rattle.smtp_dialogue.proofs.mailbox.behind_quotes.Given as goal

abbrev pub invariant-loop-octet : goal.invariant-loop-octet
invariant-loop-octet l = behind_quotes false l.inner ≡ behind_quotes l.is_escaped l.left

abbrev pub decreases-loop-octet : goal.decreases-loop-octet
decreases-loop-octet l = length l.left
