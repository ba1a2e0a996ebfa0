-- The store was taken, its accounts read one after the other, and handed back.
use Rattle.std.proofs.Common.{Ok, refl, rules}
use Rattle.sqlite.specs.Held.{state}
use Rattle.cli_run.specs.Serving.{HasDenied}
use Rattle.cli_run.proofs.AllUserLemmas.{over_turned, listing_denied, listing_failed, listing_had}
use Rattle.cli_run.proofs.all_users.list_all.Goals as goal

pub returns-in_err-store-clause-found : goal.returns-in_err-store-clause-found
returns-in_err-store-clause-found g c tells =
    listing_denied (HasDenied g.K.Keeper.refuses g.K.Keeper.will_wait c.args.location) (g.L.AccountLines.lines c.args.lines.now) c.in_err-store.field-0.0 c.from_residual.result (search rules) c.in_err-store.ensures.denied
    (g.K.Keeper.holds c.args.keeper.now) (g.K.Keeper.holds c.take_store.new.keeper) (c.in_err-store.ensures.refused tells)

pub returns-in_err-listed-clause-found : goal.returns-in_err-listed-clause-found
returns-in_err-listed-clause-found g c tells =
    let got = c.in_ok-store.ensures.taken tells in
    let sure = g.met.K.Keeper.sure c.all_lines-listed.new.store tells in
    let Denied = HasDenied g.K.Keeper.refuses g.K.Keeper.will_wait c.args.location in
    over_turned (g.K.Keeper.holds c.args.keeper.now) (g.K.Keeper.holds c.hand_back.new.self) (state g.K.S.Store c.in_ok-store.store) (state g.K.S.Store c.all_lines-listed.new.store) got.0 got.2 sure.0 sure.1 (c.hand_back.ensures.held tells)
    Denied (g.L.AccountLines.lines c.args.lines.now) c.all_lines-listed.result c.all_lines-listed.ensures.lists c.from_residual-in_err-listed.result
    (λ accounts found. listing_failed Denied (g.L.AccountLines.lines c.args.lines.now) c.in_err-listed.field-0.0 c.from_residual-in_err-listed.result (search rules) c.in_err-listed.ensures.named accounts)

pub returns-clause-found : goal.returns-clause-found
returns-clause-found g c tells =
    let got = c.in_ok-store.ensures.taken tells in
    let sure = g.met.K.Keeper.sure c.all_lines-listed.new.store tells in
    let Denied = HasDenied g.K.Keeper.refuses g.K.Keeper.will_wait c.args.location in
    over_turned (g.K.Keeper.holds c.args.keeper.now) (g.K.Keeper.holds c.hand_back.new.self) (state g.K.S.Store c.in_ok-store.store) (state g.K.S.Store c.all_lines-listed.new.store) got.0 got.2 sure.0 sure.1 (c.hand_back.ensures.held tells)
    Denied (g.L.AccountLines.lines c.args.lines.now) c.all_lines-listed.result c.all_lines-listed.ensures.lists (Ok c.in_ok-listed.field-0)
    (λ accounts found. listing_had Denied (g.L.AccountLines.lines c.args.lines.now) c.all_lines-listed.result c.in_ok-listed.field-0 (Ok c.in_ok-listed.field-0) c.in_ok-listed.was refl accounts found)
