use Rattle.std.proofs.Common.{◌≡◌, ◌<◌, ◌+◌, ◌++◌, ◌∷◌, ◌∙◌, [], length, map, get_or, Err, Ok, ap, sym, subst, arith, rules}
use Rattle.std.proofs.lemmas.List.{get_or-map, length-map, length_push}
use Rattle.sqlite.specs.Held.{state}
use Rattle.store_accounts.specs.declared.deliveries.PlannedDelivery.{PlannedDelivery}
use Rattle.store_accounts.specs.Deliveries.{plan_in, plans_in, CountsEach}
use Rattle.store_accounts.proofs.DeliveriesLemmas.{counts_more, counts_refused}
use Rattle.store_accounts.proofs.store.Store.counters_of_each.Goals as goal

pub returns-in_err-counters-clause-counts : goal.returns-in_err-counters-clause-counts
returns-in_err-counters-clause-counts g c =
    let deliveries = c.args.deliveries.now in
    let i = c.loop-delivery.delivery-index in
    let d = c.delivery-item.result in
    let within : i < length (plans_in deliveries) = simp length-map c.loop-delivery-test.true in
    let is : plan_in d ≡ get_or (plans_in deliveries) i (plan_in d) = ap plan_in c.delivery-item.is ∙ sym (get_or-map plan_in deliveries i d (plan_in d) c.loop-delivery-test.true) in
    let told : c.from_residual.result ≡ Err c.in_err-counters.field-0.0 = search rules in
    counts_refused (plans_in deliveries) i (plan_in d) within is c.loop-delivery.all (state g.S.Store c.args.self.now) (state g.S.Store c.loop-delivery.self) (state g.S.Store c.counters.new.self) c.loop-delivery.invariant.counts
    c.counters.result c.counters.ensures c.in_err-counters.field-0.0 c.in_err-counters.was c.from_residual.result told

pub loop-delivery-preserved : goal.loop-delivery-preserved
loop-delivery-preserved g c =
    let deliveries = c.args.deliveries.now in
    let i = c.loop-delivery.delivery-index in
    let d = c.delivery-item.result in
    let within : i < length (plans_in deliveries) = simp length-map c.loop-delivery-test.true in
    let is : plan_in d ≡ get_or (plans_in deliveries) i (plan_in d) = ap plan_in c.delivery-item.is ∙ sym (get_or-map plan_in deliveries i d (plan_in d) c.loop-delivery-test.true) in
    let joined : c.push.new.self ≡ c.loop-delivery.all ++ c.in_ok-counters.counters ∷ [] = search rules in
    record {
      counts =
          counts_more (plans_in deliveries) i (plan_in d) within is c.loop-delivery.all (state g.S.Store c.args.self.now) (state g.S.Store c.loop-delivery.self) (state g.S.Store c.counters.new.self) c.loop-delivery.invariant.counts
          c.counters.result c.counters.ensures c.in_ok-counters.counters c.in_ok-counters.was c.push.new.self joined;
      count = ap length joined ∙ length_push c.loop-delivery.all c.in_ok-counters.counters ∙ ap (λ n. n + 1) c.loop-delivery.invariant.count;
    }
