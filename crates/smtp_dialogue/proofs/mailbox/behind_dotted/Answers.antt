use Rattle.std.proofs.Common.{sym, ◌∙◌}
use Rattle.smtp_dialogue.proofs.MailboxLemmas.{one_dotted}
use Rattle.smtp_dialogue.proofs.mailbox.behind_dotted.Goals as goal

pub returns-then-is_dot_string-clause-one : goal.returns-then-is_dot_string-clause-one
returns-then-is_dot_string-clause-one c = λ other is.
    (one_dotted c.args.text.now c.in-Some.cut.front.now c.in-Some.cut.rest.now other c.in-Some.ensures.found is).0

pub returns-else-is_dot_string-clause-none : goal.returns-else-is_dot_string-clause-none
returns-else-is_dot_string-clause-none c = λ host is.
    let yes = (one_dotted c.args.text.now c.in-Some.cut.front.now c.in-Some.cut.rest.now host c.in-Some.ensures.found is).1 in
    let no = sym yes ∙ (sym c.is_dot_string.ensures ∙ c.if-is_dot_string.false) in
    absurd (cc no)
