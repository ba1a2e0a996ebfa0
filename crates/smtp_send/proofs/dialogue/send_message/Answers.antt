use Rattle.smtp_dialogue.specs.Messages.{smtp_mail_of}
use Rattle.smtp_send.proofs.TalkLemmas.{treats}
use Rattle.smtp_send.proofs.dialogue.send_message.Goals as goal

pub returns-clause-treats : goal.returns-clause-treats
returns-clause-treats g c = λ t said.
    let it = c.speak.ensures.says t said in (
      it.0,
      it.1,
      treats c.args.offered c.args.may_eight_bit (smtp_mail_of c.args.message) t it.0 c.speak.result (c.is_addressed.ensures.0 c.if-not-is_addressed.false)
          (c.is_offered.ensures.0 c.if-not-is_offered.false) it.2,
    )
