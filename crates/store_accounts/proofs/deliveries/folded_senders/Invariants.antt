use Rattle.std.proofs.Common.{◌≡◌, map, take}
use Rattle.octets.specs.Ascii.{lowered}
use Rattle.store_accounts.specs.declared.deliveries.PlannedDelivery.{PlannedDelivery}
use Rattle.store_accounts.proofs.deliveries.folded_senders.Given as goal

abbrev pub invariant-loop-delivery : goal.invariant-loop-delivery
invariant-loop-delivery l = l.senders ≡ map (λ (d : PlannedDelivery). lowered d.plan.now.sender.now) (take l.delivery-index l.deliveries)
