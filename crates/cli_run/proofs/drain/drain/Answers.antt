-- The account was looked for, and then messages were moved.
use Rattle.std.proofs.Common.{◌≡◌, ◌⊎◌, Ok, Err, IfErr, inl, inr, ap, subst, sym, refl, rules}
use Rattle.sqlite.specs.Held.{state}
use Rattle.cli_run.specs.Draining.{Drains, HasRefused, IsUnkept, sink_mails}
use Rattle.cli_run.specs.declared.fault.RunFault.TheVariants.{Refused}
use Rattle.cli_run.specs.Faults.{no_user, IsSudden}
use Rattle.cli_run.proofs.LeaveLemmas.{grown_none}
use Rattle.cli_run.proofs.MoveLemmas.{not_entered, drained_then}
use Rattle.cli_run.proofs.WordLemmas.{sudden_statuses, sudden_refusal, sudden_or}
use Rattle.cli_run.proofs.drain.drain.Goals as goal

pub returns-in_err-enter-clause-fault : goal.returns-in_err-enter-clause-fault
returns-in_err-enter-clause-fault g c =
    let refusal = c.in_err-enter.field-0.0 in
    let is : c.from_residual.result ≡ Err (Refused refusal) = search rules in
    subst (λ r. IfErr r (λ fault. IsSudden (IsUnkept (HasRefused g.T.MailSink.refuses)) fault ⊎ (fault ≡ no_user))) (sym is)
    (elim c.in_err-enter.ensures.named [ inl none ↦ inr (ap Refused none) | inr transient ↦ inl (sudden_refusal (IsUnkept (HasRefused g.T.MailSink.refuses)) refusal transient) ])

pub returns-clause-fault : goal.returns-clause-fault
returns-clause-fault g c = sudden_or (IsUnkept (HasRefused g.T.MailSink.refuses)) c.move_all.result no_user c.move_all.ensures.fault

pub returns-in_err-enter-clause-moves : goal.returns-in_err-enter-clause-moves
returns-in_err-enter-clause-moves g c =
    let refusal = c.in_err-enter.field-0.0 in
    let kept = g.T.MailSink.kept c.args.sink.now in
    let is : c.from_residual.result ≡ Err (Refused refusal) = search rules in
    subst (λ r. Drains c.args.user.now c.args.folder.now (sink_mails g.T.MailSink.tells kept kept) c.args.most r (state g.S.Store c.args.store.now) (state g.S.Store c.enter.new.self)) (sym is)
    (not_entered c.args.user.now c.args.folder.now g.T.MailSink.tells kept kept c.args.most (state g.S.Store c.args.store.now) (state g.S.Store c.enter.new.self) (Err refusal) c.in_err-enter.ensures refusal refl
    (grown_none c.args.user.now c.args.folder.now g.T.MailSink.tells kept))

pub returns-clause-moves : goal.returns-clause-moves
returns-clause-moves g c =
    drained_then c.args.user.now c.args.folder.now g.T.MailSink.tells (g.T.MailSink.kept c.args.sink.now) (g.T.MailSink.kept c.move_all.new.sink) c.args.most (state g.S.Store c.args.store.now) (state g.S.Store c.enter.new.self) c.enter.result
    c.enter.ensures (state g.S.Store c.move_all.new.store) c.in_ok-enter.field-0 c.in_ok-enter.was c.move_all.result (sudden_statuses (IsUnkept (HasRefused g.T.MailSink.refuses)) c.move_all.result c.move_all.ensures.fault) c.move_all.ensures.moves
