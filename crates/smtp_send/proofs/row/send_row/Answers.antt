use Rattle.std.proofs.Common.{subst, sym, Ok}
use Rattle.smtp_dialogue.specs.Messages.{smtp_mail_of}
use Rattle.smtp_send.specs.Talks.{Treats}
use Rattle.smtp_send.specs.Attempts.{state, EndsRow}
use Rattle.smtp_send.proofs.AttemptLemmas.{waits, leaves, keeps}
use Rattle.smtp_send.proofs.row.send_row.Goals as goal

pub returns-in-Ok-take_out : goal.returns-in-Ok-take_out
returns-in-Ok-take_out g c = λ before shows said.
    let it = c.in-Ok.ensures.treats before.talk said in
    let mail = smtp_mail_of c.smtp_message_of-message.result in
    let out = c.in-Ok-take_out.ensures.taken before.rows (c.in-Ok.ensures.rows before.rows shows) in
    let treats = subst (λ e. Treats c.args.offered c.args.may_eight_bit mail before.talk it.0 e) c.in-Sent.is it.2 in (
      state out.0 it.0,
      out.2,
      it.1,
      subst (λ e. EndsRow c.args.offered c.args.may_eight_bit c.args.row.now before (state out.0 it.0) (Ok e)) (sym c.in-Sent.is)
          (leaves c.args.offered c.args.may_eight_bit c.args.row.now mail before it.0 out.0 c.in-Ok-take_out.taken c.smtp_message_of-message.ensures treats out.1),
    )

pub returns-in-Err : goal.returns-in-Err
returns-in-Err g c = λ before shows said.
    let it = c.in-Ok.ensures.treats before.talk said in
    let mail = smtp_mail_of c.smtp_message_of-message.result in
    let treats = subst (λ e. Treats c.args.offered c.args.may_eight_bit mail before.talk it.0 e) c.in-Sent.is it.2 in
    (state before.rows it.0, c.in-Err.ensures.kept before.rows (c.in-Ok.ensures.rows before.rows shows), it.1, keeps c.args.offered c.args.may_eight_bit c.args.row.now mail before it.0 c.smtp_message_of-message.ensures treats)

pub returns-in_default-ending : goal.returns-in_default-ending
returns-in_default-ending g c = λ before shows said.
    let it = c.in-Ok.ensures.treats before.talk said in
    let mail = smtp_mail_of c.smtp_message_of-message.result in
    (state before.rows it.0, c.in-Ok.ensures.rows before.rows shows, it.1, waits c.args.offered c.args.may_eight_bit c.args.row.now mail before it.0 c.in-Ok.ending c.smtp_message_of-message.ensures it.2 c.in_default-ending.not-Sent)
