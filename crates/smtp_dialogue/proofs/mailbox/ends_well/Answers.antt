use Rattle.std.proofs.Common.{ap, sym, ◌∙◌}
use Rattle.smtp_dialogue.specs.Mailboxes as s
use Rattle.smtp_dialogue.proofs.MailboxLemmas.{ends-snoc}
use Rattle.smtp_dialogue.proofs.mailbox.ends_well.Goals as goal

pub returns-in-Some : goal.returns-in-Some
returns-in-Some c = c.is_end.ensures ∙ (sym (ends-snoc c.in-Some.field-0-1.now c.in-Some.octet.now) ∙ ap s.ends_well (sym c.in-Some.ensures.cases.0))
