-- The store was taken, its notices printed and taken, and the store was handed back.
use Rattle.std.proofs.Common.{◌≡◌, subst, refl, rules}
use Rattle.sqlite.specs.Held.{state}
use Rattle.cli_run.specs.Serving.{HasDenied}
use Rattle.cli_run.specs.Values.{IsNoUntil}
use Rattle.cli_run.specs.Subcommands.{TakesListed, TurnsStore}
use Rattle.cli_run.proofs.TakeLemmas.{store_turned, taking_done, taking_hindered}
use Rattle.cli_run.proofs.WordLemmas.{denied, wrong}
use Rattle.cli_run.proofs.notices.run_taking.Goals as goal

pub returns-in_err-until-clause-does : goal.returns-in_err-until-clause-does
returns-in_err-until-clause-does g c tells =
    let Denied = HasDenied g.K.Keeper.refuses g.K.Keeper.will_wait c.args.location in
    let digits = c.args.until.now in
    taking_hindered Denied c.args.user.now digits (g.W.Write.contents c.args.output.now) c.in_err-until.field-0.0 c.from_residual.result (search rules) (wrong ⊥ (IsNoUntil digits) Denied _ c.in_err-until.ensures.fault c.in_err-until.ensures.none)
    (g.K.Keeper.holds c.args.keeper.now) (g.K.Keeper.holds c.args.keeper.now) refl

pub returns-in_err-store-clause-does : goal.returns-in_err-store-clause-does
returns-in_err-store-clause-does g c tells =
    let Denied = HasDenied g.K.Keeper.refuses g.K.Keeper.will_wait c.args.location in
    let digits = c.args.until.now in
    taking_hindered Denied c.args.user.now digits (g.W.Write.contents c.args.output.now) c.in_err-store.field-0.0 c.from_residual-in_err-store.result (search rules) (denied ⊥ (IsNoUntil digits) Denied c.in_err-store.field-0.0 c.in_err-store.ensures.denied c.in_ok-until.ensures.right)
    (g.K.Keeper.holds c.args.keeper.now) (g.K.Keeper.holds c.take_store.new.keeper) (c.in_err-store.ensures.refused tells)

pub returns-clause-does : goal.returns-clause-does
returns-clause-does g c tells =
    let got = c.in_ok-store.ensures.taken tells in
    let sure = g.met.K.Keeper.sure c.print_and_take-taken.new.store tells in
    let Denied = HasDenied g.K.Keeper.refuses g.K.Keeper.will_wait c.args.location in
    let old = g.W.Write.contents c.args.output.now in
    let new = g.W.Write.contents c.print_and_take-taken.new.output in
    let until = c.in_ok-until.until in
    let r = c.print_and_take-taken.result in
    let name : c.as_bytes.result.now ≡ c.args.user.now = search rules in
    let turns = subst (λ user. TurnsStore (TakesListed user until old new r) (state g.K.S.Store c.in_ok-store.store) (state g.K.S.Store c.print_and_take-taken.new.store)) name c.print_and_take-taken.ensures.takes in
    taking_done Denied c.args.user.now c.args.until.now until c.in_ok-until.ensures.ok old new r (g.K.Keeper.holds c.args.keeper.now) (g.K.Keeper.holds c.hand_back.new.self)
    (store_turned (g.K.Keeper.holds c.args.keeper.now) (g.K.Keeper.holds c.hand_back.new.self) (state g.K.S.Store c.in_ok-store.store) (state g.K.S.Store c.print_and_take-taken.new.store) got.0 got.2 sure.0 sure.1 (c.hand_back.ensures.held tells)
    (TakesListed c.args.user.now until old new r) turns)
