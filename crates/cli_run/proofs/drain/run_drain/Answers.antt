-- The sink was opened, the store drained, and the line written, as far as that went.
use Rattle.std.proofs.Common.{◌≡◌, option_copied, Err, refl, inl, subst, sym, rules}
use Rattle.cli_run.specs.Draining.{HasDrained, HasRefused, IsUnkept, sink_mails}
use Rattle.cli_run.specs.Faults.{sink_fault}
use Rattle.cli_run.specs.Serving.{HasDenied}
use Rattle.cli_run.specs.Values.{HasNoNumber}
use Rattle.cli_run.proofs.DrainLemmas.{word_refused, word_broke_off, word_printed, sunk_cause}
use Rattle.cli_run.proofs.WordLemmas.{wrong}
use Rattle.cli_run.proofs.drain.run_drain.Goals as goal
use Rattle.cli_run.specs.Transitions.{from_to}

pub returns-in_err-most-clause-drains : goal.returns-in_err-most-clause-drains
returns-in_err-most-clause-drains g c tells =
    let Denied = HasDenied g.K.Keeper.refuses g.K.Keeper.will_wait c.args.asked.location in
    let kept = g.T.MailSink.kept c.args.sink.now in
    let held = g.K.Keeper.holds c.args.keeper.now in
    let out = g.W.Write.contents c.args.output.now in
    let is : c.from_residual.result ≡ Err c.in_err-most.field-0.0 = search rules in
    subst (λ r. HasDrained (HasRefused g.T.MailSink.refuses) Denied c.args.asked (sink_mails g.T.MailSink.tells kept kept) (from_to out out) r (from_to held held)) (sym is)
    (word_refused (HasRefused g.T.MailSink.refuses) Denied c.args.asked g.T.MailSink.tells kept kept (λ told. refl) c.in_err-most.field-0.0 (inl (wrong (IsUnkept (HasRefused g.T.MailSink.refuses)) (HasNoNumber (option_copied c.args.asked.most)) Denied _ c.in_err-most.ensures.fault c.in_err-most.ensures.none)) out held)

pub returns-in_err-open-clause-drains : goal.returns-in_err-open-clause-drains
returns-in_err-open-clause-drains g c tells =
    let Denied = HasDenied g.K.Keeper.refuses g.K.Keeper.will_wait c.args.asked.location in
    let had = g.T.MailSink.kept c.args.sink.now in
    let has = g.T.MailSink.kept c.open.new.self in
    let held = g.K.Keeper.holds c.args.keeper.now in
    let out = g.W.Write.contents c.args.output.now in
    let is : c.from_residual-in_err-open.result ≡ Err (sink_fault c.in_err-open.field-0.0) = search rules in
    subst (λ r. HasDrained (HasRefused g.T.MailSink.refuses) Denied c.args.asked (sink_mails g.T.MailSink.tells had has) (from_to out out) r (from_to held held)) (sym is)
    (word_refused (HasRefused g.T.MailSink.refuses) Denied c.args.asked g.T.MailSink.tells had has c.open.ensures.same (sink_fault c.in_err-open.field-0.0) (sunk_cause (HasRefused g.T.MailSink.refuses) _ Denied c.in_ok-most.ensures.right c.in_err-open.field-0.0 (c.args.sink.now, c.in_err-open.ensures.denied)) out held)

pub returns-in_err-moved-clause-drains : goal.returns-in_err-moved-clause-drains
returns-in_err-moved-clause-drains g c tells =
    let Denied = HasDenied g.K.Keeper.refuses g.K.Keeper.will_wait c.args.asked.location in
    let had = g.T.MailSink.kept c.args.sink.now in
    let opened = g.T.MailSink.kept c.open.new.self in
    let has = g.T.MailSink.kept c.drain_store.new.sink in
    let held = g.K.Keeper.holds c.args.keeper.now in
    let new = g.K.Keeper.holds c.drain_store.new.keeper in
    let out = g.W.Write.contents c.args.output.now in
    let fault = c.in_err-moved.field-0.0 in
    let is : c.from_residual-in_err-moved.result ≡ Err fault = search rules in
    subst (λ r. HasDrained (HasRefused g.T.MailSink.refuses) Denied c.args.asked (sink_mails g.T.MailSink.tells had has) (from_to out out) r (from_to held new)) (sym is)
    (word_broke_off (HasRefused g.T.MailSink.refuses) Denied c.args.asked g.T.MailSink.tells had opened has c.open.ensures.same c.in_ok-most.most c.in_ok-most.ensures.ok c.in_ok-most.ensures.right c.drain_store.result held new (c.drain_store.ensures.moves tells) out fault c.in_err-moved.was)

pub returns-clause-drains : goal.returns-clause-drains
returns-clause-drains g c tells =
    let Denied = HasDenied g.K.Keeper.refuses g.K.Keeper.will_wait c.args.asked.location in
    let had = g.T.MailSink.kept c.args.sink.now in
    let opened = g.T.MailSink.kept c.open.new.self in
    let has = g.T.MailSink.kept c.drain_store.new.sink in
    let held = g.K.Keeper.holds c.args.keeper.now in
    let new = g.K.Keeper.holds c.drain_store.new.keeper in
    let old = g.W.Write.contents c.args.output.now in
    let out = g.W.Write.contents c.write_number.new.output in
    word_printed (HasRefused g.T.MailSink.refuses) Denied c.args.asked g.T.MailSink.tells had opened has c.open.ensures.same c.in_ok-most.most c.in_ok-most.ensures.ok c.in_ok-most.ensures.right c.drain_store.result held new (c.drain_store.ensures.moves tells) old out c.in_ok-moved.moved c.write_number.result c.in_ok-moved.was c.write_number.ensures
