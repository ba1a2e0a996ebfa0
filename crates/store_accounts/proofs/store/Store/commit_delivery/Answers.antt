use Rattle.std.proofs.Common.{◌≡◌, Err, ◌∙◌, ap, refl, sym, subst, rules}
use Rattle.sqlite.specs.Held.{state}
use Rattle.octets.specs.Ascii.{lowered}
use Rattle.store_accounts.specs.Account.{delivers}
use Rattle.store_accounts.specs.Delivery.{AreDelivery}
use Rattle.store_accounts.specs.Refusals.{IsTransient}
use Rattle.store_accounts.specs.declared.refusal.Refusal.TheVariants.{Memory}
use Rattle.store_accounts.proofs.DeliveryLemmas.{delivery_shows, stores_once}
use Rattle.store_accounts.proofs.KeepLemmas.{account_absent}
use Rattle.store_accounts.proofs.StandingLemmas.{free_shut}
use Rattle.store_accounts.proofs.AfterLemmas.{writes_then, write_refused, write_failed}
use Rattle.store_accounts.proofs.store.Store.commit_delivery.Goals as goal

pub returns-clause-writes : goal.returns-clause-writes
returns-clause-writes g c =
    let user = c.args.user.now in
    let plan = c.args.plan.now in
    let counters = c.in_ok-counters.counters in
    let same : c.as_slice.result.now ≡ lowered plan.sender.now = c.as_slice.ensures ∙ c.in_ok-folded.ensures in
    let delivery = subst (AreDelivery user counters plan) (sym c.deref.ensures.value) (c.in_ok-changes.ensures.delivery same) in
    writes_then (state g.S.Store c.args.self.now) (state g.S.Store c.counters.new.self) (state g.S.Store c.apply.new.self) c.counters.result counters c.in_ok-counters.was c.counters.ensures.keeps user (delivers plan) c.deref.result.now
    (λ clean accounts p has. delivery_shows user counters plan c.deref.result.now delivery p.0 accounts p.2 has (c.in_ok-counters.ensures.found clean p.0 p.1))
    c.apply.ensures.crash c.apply.result c.apply.ensures.made c.apply.ensures.settled c.apply.ensures.same c.apply.ensures.named

pub returns-clause-once : goal.returns-clause-once
returns-clause-once g c =
    let user = c.args.user.now in
    let plan = c.args.plan.now in
    let counters = c.in_ok-counters.counters in
    let same : c.as_slice.result.now ≡ lowered plan.sender.now = c.as_slice.ensures ∙ c.in_ok-folded.ensures in
    let delivery = subst (AreDelivery user counters plan) (sym c.deref.ensures.value) (c.in_ok-changes.ensures.delivery same) in
    stores_once (state g.S.Store c.args.self.now) (state g.S.Store c.counters.new.self) (state g.S.Store c.apply.new.self) c.counters.result counters c.in_ok-counters.was c.counters.ensures.keeps user counters plan c.deref.result.now delivery
    c.apply.ensures.crash c.apply.result c.apply.ensures.made

pub returns-in_err-counters-clause-writes : goal.returns-in_err-counters-clause-writes
returns-in_err-counters-clause-writes g c =
    let old = state g.S.Store c.args.self.now in
    let new = state g.S.Store c.counters.new.self in
    let e = c.in_err-counters.field-0.0 in
    let is : c.from_residual.result ≡ Err e = search rules in
    let read = c.in_err-counters.ensures in
    write_refused old new c.counters.result c.args.user.now (delivers c.args.plan.now) e c.from_residual.result is c.counters.ensures.keeps (λ clean accounts p none. free_shut accounts c.args.user.now (account_absent accounts c.args.user.now p.0 p.2 (read.absent clean p.0 p.1 none))) read.named

pub returns-in_err-folded-clause-writes : goal.returns-in_err-folded-clause-writes
returns-in_err-folded-clause-writes g c =
    let old = state g.S.Store c.args.self.now in
    let new = state g.S.Store c.counters.new.self in
    let is : c.from_residual-in_err-folded.result ≡ Err Memory = search rules in
    let transient : IsTransient Memory = search rules in
    write_failed old new c.counters.result c.args.user.now (delivers c.args.plan.now) Memory c.from_residual-in_err-folded.result is c.counters.ensures.keeps transient

pub returns-in_err-changes-clause-writes : goal.returns-in_err-changes-clause-writes
returns-in_err-changes-clause-writes g c =
    let old = state g.S.Store c.args.self.now in
    let new = state g.S.Store c.counters.new.self in
    let e = c.in_err-changes.field-0.0 in
    let is : c.from_residual-in_err-changes.result ≡ Err e = search rules in
    write_failed old new c.counters.result c.args.user.now (delivers c.args.plan.now) e c.from_residual-in_err-changes.result is c.counters.ensures.keeps c.in_err-changes.ensures.named
