use Rattle.std.proofs.Common.{inl, inr}
use Rattle.smtp_dialogue.proofs.MailboxLemmas.{one_tagged, is_tagged}
use Rattle.smtp_dialogue.proofs.mailbox.is_tagged.Goals as goal

pub returns-in-Some : goal.returns-in-Some
returns-in-Some c =
    let cut = c.in-Some.ensures.found in (
      λ yes. is_tagged c.args.text.now c.in-Some.cut.front.now c.in-Some.cut.rest.now cut (c.says.ensures.0 yes),
      λ is. c.says.ensures.1 (one_tagged c.args.text.now c.in-Some.cut.front.now c.in-Some.cut.rest.now cut is),
    )
