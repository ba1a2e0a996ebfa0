use Rattle.std.proofs.Common.{◌≡◌, Err, rules}
use Rattle.sqlite.specs.Held.{state}
use Rattle.store_engine.proofs.MailTakingLemmas.{mail_unread, mail_none, mail_written}
use Rattle.store_engine.proofs.taking.take_mail.Goals as goal

pub returns-in_err-first-clause-acts : goal.returns-in_err-first-clause-acts
returns-in_err-first-clause-acts g c =
    let is : c.from_residual.result ≡ Err c.in_err-first.field-0.0 = search rules in
    mail_unread c.args.user.now c.args.folder.now (state g.S.Store c.args.store.now) (state g.S.Store c.first_message.new.store) c.in_err-first.field-0.0 c.from_residual.result is c.in_err-first.ensures.first

pub returns-in_default-clause-acts : goal.returns-in_default-clause-acts
returns-in_default-clause-acts g c =
    mail_none c.args.user.now c.args.folder.now (state g.S.Store c.args.store.now) (state g.S.Store c.first_message.new.store) c.first_message.result c.in_ok-first.first c.in_ok-first.was c.first_message.ensures.first c.in_default.is

pub returns-clause-acts : goal.returns-clause-acts
returns-clause-acts g c =
    mail_written c.args.user.now c.args.folder.now (state g.S.Store c.args.store.now) (state g.S.Store c.first_message.new.store) c.first_message.result c.in_ok-first.first c.in_ok-first.was c.first_message.ensures.first c.in-Some._message c.in-Some.is
    (state g.S.Store c.take_mail.new.self) c.take_mail.result c.take_mail.ensures.writes c.take_mail.ensures.named
