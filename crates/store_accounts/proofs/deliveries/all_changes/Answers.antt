use Rattle.std.proofs.Common.{◌≡◌, ◌<◌, ◌++◌, ◌∙◌, length, get_or, ap, arith, sym, rules}
use Rattle.std.proofs.lemmas.List.{get_or-map, length-map}
use Rattle.octets.specs.Ascii.{lowered}
use Rattle.store_accounts.specs.declared.deliveries.PlannedDelivery.{PlannedDelivery}
use Rattle.store_accounts.specs.Deliveries.{plan_in, plans_in}
use Rattle.store_accounts.proofs.DeliveriesLemmas.{deliveries_more}
use Rattle.store_accounts.proofs.deliveries.all_changes.Goals as goal

pub loop-i-preserved : goal.loop-i-preserved
loop-i-preserved c =
    let deliveries = c.args.deliveries.now in
    let i = c.loop-i.i in
    let d = c.index-deliveries-i.result in
    let within : i < length (plans_in deliveries) = simp length-map c.loop-i-test.true in
    let counted : i < length c.args.counters.now = omega arith in
    let is : plan_in d ≡ get_or (plans_in deliveries) i (plan_in d) = ap plan_in c.index-deliveries-i.is ∙ sym (get_or-map plan_in deliveries i d (plan_in d) c.loop-i-test.true) in
    let joined : c.append.new.self.items ≡ c.loop-i.all.items ++ c.in_ok-changes.changes.items = search rules in
    let text = c.index-senders-i.result in
    let folded : text ≡ lowered d.plan.now.sender.now =
    c.index-senders-i.is ∙ ap (λ l. get_or l i text) c.requires.folded ∙ get_or-map (λ (e : PlannedDelivery). lowered e.plan.now.sender.now) deliveries i d text c.loop-i-test.true
    ∙ ap (λ (e : PlannedDelivery). lowered e.plan.now.sender.now) (sym c.index-deliveries-i.is) in
    deliveries_more (plans_in deliveries) c.args.counters.now i (plan_in d) _ c.loop-i.all.items c.in_ok-changes.changes.items c.append.new.self.items within counted is joined c.loop-i.invariant
    (c.in_ok-changes.ensures.delivery (c.as_slice-sender.ensures ∙ folded))
