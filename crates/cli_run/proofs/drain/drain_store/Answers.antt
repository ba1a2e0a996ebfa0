-- The store was taken, drained and handed back.
use Rattle.std.proofs.Common.{refl, rules}
use Rattle.sqlite.specs.Held.{state}
use Rattle.cli_run.specs.Draining.{HasRefused}
use Rattle.cli_run.specs.Serving.{HasDenied}
use Rattle.cli_run.proofs.DrainLemmas.{drained_turned, drained_denied}
use Rattle.cli_run.proofs.drain.drain_store.Goals as goal

pub returns-in_err-store-clause-moves : goal.returns-in_err-store-clause-moves
returns-in_err-store-clause-moves g c tells =
    drained_denied (HasRefused g.T.MailSink.refuses) (HasDenied g.K.Keeper.refuses g.K.Keeper.will_wait c.args.asked.location) c.args.asked g.T.MailSink.tells (g.T.MailSink.kept c.args.sink.now) c.args.most c.in_err-store.field-0.0 c.from_residual.result (search rules) c.in_err-store.ensures.denied (g.K.Keeper.holds c.args.keeper.now) (g.K.Keeper.holds c.take_store.new.keeper) (c.in_err-store.ensures.refused tells)

pub returns-clause-moves : goal.returns-clause-moves
returns-clause-moves g c tells =
    let got = c.in_ok-store.ensures.taken tells in
    let sure = g.met.K.Keeper.sure c.drain-drained.new.store tells in
    drained_turned (HasRefused g.T.MailSink.refuses) (HasDenied g.K.Keeper.refuses g.K.Keeper.will_wait c.args.asked.location) c.args.asked c.as_bytes-user.result.now c.as_bytes-folder.result.now c.as_bytes-user.ensures.value c.as_bytes-folder.ensures.value g.T.MailSink.tells (g.T.MailSink.kept c.args.sink.now)
    (g.T.MailSink.kept c.drain-drained.new.sink) c.args.most c.drain-drained.result c.drain-drained.result refl c.drain-drained.ensures.fault (g.K.Keeper.holds c.args.keeper.now) (g.K.Keeper.holds c.hand_back.new.self)
    (state g.K.S.Store c.in_ok-store.store) (state g.K.S.Store c.drain-drained.new.store) got.0 got.2 sure.0 sure.1 (c.hand_back.ensures.held tells) c.drain-drained.ensures.moves
