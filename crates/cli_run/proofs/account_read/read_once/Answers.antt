-- The store was taken, read and handed back.
use Rattle.std.proofs.Common.{Ok, refl, rules}
use Rattle.sqlite.specs.Held.{state}
use Rattle.cli_run.specs.Serving.{HasDenied}
use Rattle.cli_run.proofs.WordLemmas.{find_denied, read_turned, found_ok, found_none}
use Rattle.cli_run.proofs.account_read.read_once.Goals as goal

pub returns-in_err-store-clause-found : goal.returns-in_err-store-clause-found
returns-in_err-store-clause-found g c tells =
    find_denied (HasDenied g.K.Keeper.refuses g.K.Keeper.will_wait c.args.location) (g.Q.AccountRead.user c.args.wanted.now) (g.Q.AccountRead.finds c.args.wanted.now) c.in_err-store.field-0.0 c.from_residual.result (search rules) c.in_err-store.ensures.denied (g.K.Keeper.holds c.args.keeper.now) (g.K.Keeper.holds c.take_store.new.keeper) (c.in_err-store.ensures.refused tells)

pub returns-in_err-found-clause-found : goal.returns-in_err-found-clause-found
returns-in_err-found-clause-found g c tells =
    let got = c.in_ok-store.ensures.taken tells in
    let sure = g.met.K.Keeper.sure c.read-found.new.store tells in
    let Denied = HasDenied g.K.Keeper.refuses g.K.Keeper.will_wait c.args.location in
    let user = g.Q.AccountRead.user c.args.wanted.now in
    let Part = g.Q.AccountRead.finds c.args.wanted.now in
    let e = c.in_err-found.field-0.0 in
    read_turned (g.K.Keeper.holds c.args.keeper.now) (g.K.Keeper.holds c.hand_back.new.self) (state g.K.S.Store c.in_ok-store.store) (state g.K.S.Store c.read-found.new.store) got.0 got.2 sure.0 sure.1 (c.hand_back.ensures.held tells)
    Denied user Part c.read-found.result c.read-found.ensures c.from_residual-in_err-found.result
    (λ accounts found absent. found_none Denied user Part c.read-found.result e c.from_residual-in_err-found.result c.in_err-found.was (search rules) c.in_err-found.ensures.named accounts absent)

pub returns-clause-found : goal.returns-clause-found
returns-clause-found g c tells =
    let got = c.in_ok-store.ensures.taken tells in
    let sure = g.met.K.Keeper.sure c.read-found.new.store tells in
    let Denied = HasDenied g.K.Keeper.refuses g.K.Keeper.will_wait c.args.location in
    let user = g.Q.AccountRead.user c.args.wanted.now in
    let Part = g.Q.AccountRead.finds c.args.wanted.now in
    read_turned (g.K.Keeper.holds c.args.keeper.now) (g.K.Keeper.holds c.hand_back.new.self) (state g.K.S.Store c.in_ok-store.store) (state g.K.S.Store c.read-found.new.store) got.0 got.2 sure.0 sure.1 (c.hand_back.ensures.held tells)
    Denied user Part c.read-found.result c.read-found.ensures (Ok c.in_ok-found.field-0)
    (λ accounts found absent. found_ok Denied user Part c.read-found.result c.in_ok-found.field-0 (Ok c.in_ok-found.field-0) c.in_ok-found.was refl accounts found)
