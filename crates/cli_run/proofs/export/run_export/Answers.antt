-- The store was taken, the text of the account printed, and the store handed back.
use Rattle.std.proofs.Common.{◌≡◌, subst, rules}
use Rattle.sqlite.specs.Held.{state}
use Rattle.cli_run.specs.Serving.{HasDenied}
use Rattle.cli_run.specs.Subcommands.{Exports, TurnsStore}
use Rattle.cli_run.proofs.ExportLemmas.{export_denied, export_done}
use Rattle.cli_run.proofs.TakeLemmas.{store_turned}
use Rattle.cli_run.proofs.export.run_export.Goals as goal

pub returns-in_err-store-clause-does : goal.returns-in_err-store-clause-does
returns-in_err-store-clause-does g c tells =
    export_denied (HasDenied g.K.Keeper.refuses g.K.Keeper.will_wait c.args.asked.location) c.args.asked.and_close c.args.asked.user.now (g.W.Write.contents c.args.output.now) c.in_err-store.field-0.0 c.from_residual.result (search rules)
    c.in_err-store.ensures.denied (g.K.Keeper.holds c.args.keeper.now) (g.K.Keeper.holds c.take_store.new.keeper) (c.in_err-store.ensures.refused tells)

pub returns-clause-does : goal.returns-clause-does
returns-clause-does g c tells =
    let got = c.in_ok-store.ensures.taken tells in
    let sure = g.met.K.Keeper.sure c.export-exported.new.store tells in
    let Denied = HasDenied g.K.Keeper.refuses g.K.Keeper.will_wait c.args.asked.location in
    let closes = c.args.asked.and_close in
    let old = g.W.Write.contents c.args.output.now in
    let new = g.W.Write.contents c.export-exported.new.output in
    let r = c.export-exported.result in
    let name : c.as_bytes.result.now ≡ c.args.asked.user.now = search rules in
    let turns = subst (λ user. TurnsStore (Exports closes user old new r) (state g.K.S.Store c.in_ok-store.store) (state g.K.S.Store c.export-exported.new.store)) name c.export-exported.ensures in
    export_done Denied closes c.args.asked.user.now old new r (g.K.Keeper.holds c.args.keeper.now) (g.K.Keeper.holds c.hand_back.new.self)
    (store_turned (g.K.Keeper.holds c.args.keeper.now) (g.K.Keeper.holds c.hand_back.new.self) (state g.K.S.Store c.in_ok-store.store) (state g.K.S.Store c.export-exported.new.store) got.0 got.2 sure.0 sure.1 (c.hand_back.ensures.held tells)
    (Exports closes c.args.asked.user.now old new r) turns)
