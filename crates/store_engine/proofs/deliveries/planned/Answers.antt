use Rattle.std.proofs.Common.{◌∙◌, ap, Global, Vec}
use Rattle.store_accounts.specs.declared.deliveries.PlannedDelivery.{PlannedDelivery}
use Rattle.store_accounts.specs.Deliveries.{plans_in}
use Rattle.store_engine.specs.Deliveries.{plan_made}
use Rattle.store_engine.proofs.DeliveriesLemmas.{planned_more, planned_none}
use Rattle.store_engine.proofs.deliveries.planned.Goals as goal
use Rattle.store_engine.proofs.deliveries.planned.Goals.{in-Planned+in_ok-push, in_default}

pub loop-decision-preserved : goal.loop-decision-preserved
loop-decision-preserved c =
    let i = c.loop-decision.decision-index in
    let d = c.decision-item.result in
    let so_far = c.loop-decision.planned.items in
    let plans_now = λ (all : Vec PlannedDelivery Global). plans_in all.items in
    elim c.match-decision.branch [
      | in-Planned+in_ok-push w ↦
          ap plans_now w.planned-is
          ∙ planned_more c.args.decisions.now i d c.loop-decision-test.true c.decision-item.is so_far c.loop-decision.invariant _ (ap plan_made w.in-Planned.is) w.push.new.self.items w.in_ok-push.ensures.items
      | in_default w ↦ ap plans_now w.planned-is ∙ planned_none c.args.decisions.now i d c.loop-decision-test.true c.decision-item.is so_far c.loop-decision.invariant (ap plan_made w.in_default.is)
    ]
