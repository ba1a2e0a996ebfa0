-- The message was read, kept and taken, as far as that went.
use Rattle.std.proofs.Common.{[], ◌∷◌, ◌++◌, ◌∙◌, ap, subst}
use Rattle.maildir_files.specs.Kept.{kept_mail, MayKeep}
use Rattle.sqlite.specs.Held.{state}
use Rattle.store_engine.proofs.MailTakingLemmas.{mail_written}
use Rattle.cli_run.specs.declared.fault.RunFault.TheVariants.{Refused}
use Rattle.cli_run.specs.Draining.{HasRefused, IsUnkept}
use Rattle.cli_run.proofs.LeaveLemmas.{grown_none}
use Rattle.cli_run.proofs.MoveLemmas.{not_read, none_read, not_kept, moved_one, not_taken}
use Rattle.cli_run.proofs.WordLemmas.{failure_sudden, sudden_refusal, sudden_wider}
use Rattle.cli_run.proofs.drain.move_first.Goals as goal

pub returns-in-Err-clause-moves : goal.returns-in-Err-clause-moves
returns-in-Err-clause-moves g c =
    not_read c.args.user.now c.args.folder.now g.T.MailSink.tells (g.T.MailSink.kept c.args.sink.now) (g.T.MailSink.kept c.args.sink.now) (state g.S.Store c.args.store.now) (state g.S.Store c.first_message.new.store) c.first_message.result
    c.failure_of.result c.first_message.ensures.first.reads (grown_none c.args.user.now c.args.folder.now g.T.MailSink.tells (g.T.MailSink.kept c.args.sink.now))

pub returns-in_default-clause-moves : goal.returns-in_default-clause-moves
returns-in_default-clause-moves g c =
    none_read c.args.user.now c.args.folder.now g.T.MailSink.tells (g.T.MailSink.kept c.args.sink.now) (g.T.MailSink.kept c.args.sink.now) (state g.S.Store c.args.store.now) (state g.S.Store c.first_message.new.store) c.first_message.result
    c.in-Ok.first c.in-Ok.is c.first_message.ensures.first.reads c.in_default.is (grown_none c.args.user.now c.args.folder.now g.T.MailSink.tells (g.T.MailSink.kept c.args.sink.now))

pub returns-in-Err-keep-clause-moves : goal.returns-in-Err-keep-clause-moves
returns-in-Err-keep-clause-moves g c =
    not_kept c.args.user.now c.args.folder.now g.T.MailSink.tells (g.T.MailSink.kept c.args.sink.now) (g.T.MailSink.kept c.keep.new.self) (state g.S.Store c.args.store.now) (state g.S.Store c.first_message.new.store) c.first_message.result
    c.in-Ok.first c.in-Ok.is c.first_message.ensures.first.reads c.in-Some.first c.in-Some.is c.first_message.ensures.numbered c.sink_failure.result (λ told. subst (λ f. MayKeep (g.T.MailSink.kept c.args.sink.now) (kept_mail c.args.user.now c.args.folder.now c.in-Some.first.number c.in-Some.first.message f) (g.T.MailSink.kept c.keep.new.self)) c.as_slice-flags.ensures
    (subst (λ m. MayKeep (g.T.MailSink.kept c.args.sink.now) (kept_mail c.args.user.now c.args.folder.now c.in-Some.first.number m c.as_slice-flags.result.now) (g.T.MailSink.kept c.keep.new.self)) c.as_slice-message.ensures (c.in-Err-keep.ensures.refused told)))

pub returns-in-Ok-take_mail-clause-moves : goal.returns-in-Ok-take_mail-clause-moves
returns-in-Ok-take_mail-clause-moves g c =
    moved_one c.args.user.now c.args.folder.now g.T.MailSink.tells (g.T.MailSink.kept c.args.sink.now) (g.T.MailSink.kept c.keep.new.self) (state g.S.Store c.args.store.now) (state g.S.Store c.first_message.new.store) c.first_message.result
    c.in-Ok.first c.in-Ok.is c.first_message.ensures.first.reads c.in-Some.first c.in-Some.is c.first_message.ensures.numbered (state g.S.Store c.take_mail.new.self) c.take_mail.result c.take_mail.ensures.writes
    (mail_written c.args.user.now c.args.folder.now (state g.S.Store c.args.store.now) (state g.S.Store c.first_message.new.store) c.first_message.result c.in-Ok.first c.in-Ok.is c.first_message.ensures.first c.in-Some.first c.in-Some.is
    (state g.S.Store c.take_mail.new.self) c.take_mail.result c.take_mail.ensures.writes c.take_mail.ensures.named)
    (λ told. c.in_default-keep.ensures.kept told ∙ ap (λ m. g.T.MailSink.kept c.args.sink.now ++ kept_mail c.args.user.now c.args.folder.now c.in-Some.first.number m c.as_slice-flags.result.now ∷ []) c.as_slice-message.ensures
    ∙ ap (λ f. g.T.MailSink.kept c.args.sink.now ++ kept_mail c.args.user.now c.args.folder.now c.in-Some.first.number c.in-Some.first.message f ∷ []) c.as_slice-flags.ensures) c.in-Ok-take_mail.field-0 c.in-Ok-take_mail.is

pub returns-clause-moves : goal.returns-clause-moves
returns-clause-moves g c =
    not_taken c.args.user.now c.args.folder.now g.T.MailSink.tells (g.T.MailSink.kept c.args.sink.now) (g.T.MailSink.kept c.keep.new.self) (state g.S.Store c.args.store.now) (state g.S.Store c.first_message.new.store) c.first_message.result
    c.in-Ok.first c.in-Ok.is c.first_message.ensures.first.reads c.in-Some.first c.in-Some.is c.first_message.ensures.numbered (state g.S.Store c.take_mail.new.self) c.take_mail.result c.take_mail.ensures.writes
    (mail_written c.args.user.now c.args.folder.now (state g.S.Store c.args.store.now) (state g.S.Store c.first_message.new.store) c.first_message.result c.in-Ok.first c.in-Ok.is c.first_message.ensures.first c.in-Some.first c.in-Some.is
    (state g.S.Store c.take_mail.new.self) c.take_mail.result c.take_mail.ensures.writes c.take_mail.ensures.named)
    (λ told. c.in_default-keep.ensures.kept told ∙ ap (λ m. g.T.MailSink.kept c.args.sink.now ++ kept_mail c.args.user.now c.args.folder.now c.in-Some.first.number m c.as_slice-flags.result.now ∷ []) c.as_slice-message.ensures
    ∙ ap (λ f. g.T.MailSink.kept c.args.sink.now ++ kept_mail c.args.user.now c.args.folder.now c.in-Some.first.number c.in-Some.first.message f ∷ []) c.as_slice-flags.ensures) c.in-Err-take_mail.refusal (Refused c.in-Err-take_mail.refusal)
    c.in-Err-take_mail.is

pub returns-in-Err-clause-fault : goal.returns-in-Err-clause-fault
returns-in-Err-clause-fault g c = sudden_wider (IsUnkept (HasRefused g.T.MailSink.refuses)) c.failure_of.result c.failure_of.ensures.sudden

pub returns-in-Err-keep-clause-fault : goal.returns-in-Err-keep-clause-fault
returns-in-Err-keep-clause-fault g c =
    failure_sudden (IsUnkept (HasRefused g.T.MailSink.refuses)) c.sink_failure.result c.sink_failure.ensures.failure (c.in-Err-keep.error, (c.args.sink.now, c.in-Err-keep.ensures.denied))

pub returns-clause-fault : goal.returns-clause-fault
returns-clause-fault g c = sudden_refusal (IsUnkept (HasRefused g.T.MailSink.refuses)) c.in-Err-take_mail.refusal c.in-Err-take_mail.ensures.named
