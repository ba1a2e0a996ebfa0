use Rattle.std.proofs.Common.{sym, ◌∙◌}
use Rattle.smtp_dialogue.proofs.MailboxLemmas.{not_by_host}
use Rattle.smtp_dialogue.proofs.mailbox.is_smtp_mailbox.Goals as goal

pub returns-else-is_host : goal.returns-else-is_host
returns-else-is_host c = (
  λ yes. let no = sym yes ∙ c.if-is_host.false in absurd (cc no),
  λ box. absurd (not_by_host c.args.text.now c.in-Some.host.now c.in-Some.ensures.one
      (λ is. let no = sym (c.is_host.ensures.1 is) ∙ c.if-is_host.false in absurd (cc no)) box),
)

pub returns-in-None : goal.returns-in-None
returns-in-None c = (λ yes. absurd (cc yes), λ box. absurd (c.in-None.ensures.none box.host box.cut))
