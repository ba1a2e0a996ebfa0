-- The store was taken, the change was put to the machine, and the store was handed back.
use Rattle.std.proofs.Common.{rules}
use Rattle.sqlite.specs.Held.{state}
use Rattle.store_engine.specs.Hosts.{answer_of}
use Rattle.cli_run.specs.Serving.{HasDenied}
use Rattle.cli_run.proofs.ScriptEditLemmas.{edit_denied, edited_put}
use Rattle.cli_run.proofs.WordLemmas.{carried_turned}
use Rattle.cli_run.proofs.script_edits.edit_in_store.Goals as goal

pub returns-in_err-store-clause-puts : goal.returns-in_err-store-clause-puts
returns-in_err-store-clause-puts g c tells =
    edit_denied (HasDenied g.K.Keeper.refuses g.K.Keeper.will_wait c.args.location) c.args.user.now c.args.edit c.in_err-store.field-0.0 c.from_residual.result (search rules) c.in_err-store.ensures.denied
    (g.K.Keeper.holds c.args.keeper.now) (g.K.Keeper.holds c.take_store.new.keeper) (c.in_err-store.ensures.refused tells)

pub returns-clause-puts : goal.returns-clause-puts
returns-clause-puts g c tells =
    let got = c.in_ok-store.ensures.taken tells in
    let sure = g.met.K.Keeper.sure c.do_upkeep-kept.new.store tells in
    let Denied = HasDenied g.K.Keeper.refuses g.K.Keeper.will_wait c.args.location in
    carried_turned (g.K.Keeper.holds c.args.keeper.now) (g.K.Keeper.holds c.hand_back.new.self) (state g.K.S.Store c.in_ok-store.store) (state g.K.S.Store c.do_upkeep-kept.new.store) got.0 got.2 sure.0 sure.1
    (c.hand_back.ensures.held tells) _
    (λ clean accounts shown.
    let turned = c.do_upkeep-kept.ensures.carries clean accounts shown in
    (turned.0, edited_put Denied c.args.user.now c.args.edit (answer_of c.do_upkeep-kept.result) c.edited_by.result c.edited_by.ensures.edited accounts turned.0 turned.1, turned.2))
