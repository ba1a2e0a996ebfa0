use Rattle.std.proofs.Common.{◌≡◌, OnOk, Ok, subst, arith, rules}
use Rattle.sqlite.specs.Held.{state}
use Rattle.store_accounts.specs.declared.refusal.Refusal.{Refusal}
use Rattle.store_accounts.specs.Taking.{SeesAmong}
use Rattle.store_accounts.proofs.LeavingLemmas.{leaving_none, leaving_more, leaving_lost, IsLeavingVec}
use Rattle.store_accounts.proofs.store.Store.leaving_of.Goals as goal

pub loop-at-init : goal.loop-at-init
loop-at-init g c = leaving_none c.args.user.now c.args.folder.now (state g.S.Store c.args.self.now) c.new-leaving.result c.new-leaving.ensures.items

pub loop-at-preserved : goal.loop-at-preserved
loop-at-preserved g c =
    leaving_more c.args.user.now c.args.folder.now c.loop-at.at c.loop-at.leaving c.push_leaving.new.leaving (state g.S.Store c.args.self.now) (state g.S.Store c.loop-at.self) (state g.S.Store c.push_leaving.new.self) c.loop-at.invariant
    c.push_leaving.result c.push_leaving.ensures.finds c.in_ok-push_leaving.field-0 c.in_ok-push_leaving.was

pub returns-in_err-push_leaving-clause-sees : goal.returns-in_err-push_leaving-clause-sees
returns-in_err-push_leaving-clause-sees g c =
    let none : OnOk c.from_residual.result ⊥ = search rules in
    leaving_lost c.args.user.now c.args.folder.now c.loop-at.at c.loop-at.leaving c.push_leaving.new.leaving (state g.S.Store c.args.self.now) (state g.S.Store c.loop-at.self) (state g.S.Store c.push_leaving.new.self) c.loop-at.invariant
    c.push_leaving.result c.push_leaving.ensures.finds (IsLeavingVec c.args.user.now c.args.folder.now c.args.count) c.from_residual.result none

pub returns-clause-sees : goal.returns-clause-sees
returns-clause-sees g c =
    let all : c.loop-at.at ≡ c.args.count = omega arith in
    subst (λ n. SeesAmong {E = Refusal} c.args.user.now (IsLeavingVec c.args.user.now c.args.folder.now n) (state g.S.Store c.args.self.now) (state g.S.Store c.loop-at.self) (Ok c.loop-at.leaving)) all c.loop-at.invariant
