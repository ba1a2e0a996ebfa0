use Rattle.std.proofs.Common.{sym, ◌∙◌, refl}
use Rattle.smtp_dialogue.specs.Messages.{smtp_mail_of}
use Rattle.smtp_dialogue.specs.Dialogues.{stage_text}
use Rattle.smtp_send.specs.Talks.{talk_written, talk_heard}
use Rattle.smtp_send.proofs.TalkLemmas.{lost, whole_front, err_of, ok_of, step_by, later}
use Rattle.smtp_send.proofs.dialogue.step.Goals as goal

pub returns-in-Ok-clause-later : goal.returns-in-Ok-clause-later
returns-in-Ok-clause-later g c = later c.args.stage c.in-Ok.code c.next_turn.result c.next_turn.ensures

pub returns-in-Ok-clause-steps : goal.returns-in-Ok-clause-steps
returns-in-Ok-clause-steps g c = λ t said.
    let line = stage_text c.args.spelled.offered (smtp_mail_of c.args.spelled.message) c.args.stage in
    let written = ok_of c.write_stage.result (sym c.is_err.ensures.value ∙ c.if-is_err.false) c.write_stage.ensures.ok t said in (
      talk_heard (talk_written t line) c.in-Ok.code,
      c.in-Ok.ensures.ok (talk_written t line) (c.await_reply.ensures.said (talk_written t line) written),
      step_by c.args.spelled.offered (smtp_mail_of c.args.spelled.message) c.args.stage t (talk_heard (talk_written t line) c.in-Ok.code) c.in-Ok.code c.next_turn.result refl refl c.next_turn.ensures,
    )

pub returns-in-Err-clause-steps : goal.returns-in-Err-clause-steps
returns-in-Err-clause-steps g c = λ t said.
    let line = stage_text c.args.spelled.offered (smtp_mail_of c.args.spelled.message) c.args.stage in
    let written = ok_of c.write_stage.result (sym c.is_err.ensures.value ∙ c.if-is_err.false) c.write_stage.ensures.ok t said in
    (talk_written t line, c.in-Err.ensures.err (talk_written t line) (c.await_reply.ensures.said (talk_written t line) written), lost c.args.spelled.offered (smtp_mail_of c.args.spelled.message) c.args.stage t (talk_written t line) (whole_front line t))

pub returns-then-is_err-clause-steps : goal.returns-then-is_err-clause-steps
returns-then-is_err-clause-steps g c = λ t said.
    let it = err_of c.write_stage.result (sym c.is_err.ensures.value ∙ c.if-is_err.true) c.write_stage.ensures.err t said in
    (it.0, it.1, lost c.args.spelled.offered (smtp_mail_of c.args.spelled.message) c.args.stage t it.0 it.2)
