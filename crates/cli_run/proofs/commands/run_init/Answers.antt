-- A new store was made, and is kept, where it was closed and where it wasn't.
use Rattle.std.proofs.Common.{rules}
use Rattle.sqlite.specs.Held.{state}
use Rattle.cli_run.specs.Serving.{HasDenied}
use Rattle.cli_run.proofs.WordLemmas.{init_denied, init_made}
use Rattle.cli_run.proofs.commands.run_init.Goals as goal

pub returns-in_err-store-clause-does : goal.returns-in_err-store-clause-does
returns-in_err-store-clause-does g c tells =
    init_denied (HasDenied g.K.Keeper.refuses g.K.Keeper.will_wait c.args.asked.location) (g.W.Write.contents c.args.output.now) c.in_err-store.field-0.0 c.from_residual.result (search rules) c.in_err-store.ensures.denied
    (g.K.Keeper.holds c.args.keeper.now) (g.K.Keeper.holds c.take_store.new.keeper) (c.in_err-store.ensures.refused tells)

pub returns-clause-does : goal.returns-clause-does
returns-clause-does g c tells =
    let got = c.in_ok-store.ensures.taken tells in
    init_made (HasDenied g.K.Keeper.refuses g.K.Keeper.will_wait c.args.asked.location) (g.W.Write.contents c.args.output.now) (g.W.Write.contents c.write_all.new.output) c.write_all.result c.write_all.ensures
    (g.K.Keeper.holds c.args.keeper.now) (state g.K.S.Store c.in_ok-store.store).now (g.K.Keeper.holds c.hand_back.new.self) got.1 got.0 (c.hand_back.ensures.held tells)
