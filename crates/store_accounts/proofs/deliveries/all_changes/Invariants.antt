use Rattle.std.proofs.Common.{take}
use Rattle.store_accounts.specs.Deliveries.{plans_in, AreDeliveries}
use Rattle.store_accounts.proofs.deliveries.all_changes.Given as goal

abbrev pub invariant-loop-i : goal.invariant-loop-i
invariant-loop-i l = AreDeliveries (take l.i (plans_in l.deliveries)) (take l.i l.counters) l.all.items
