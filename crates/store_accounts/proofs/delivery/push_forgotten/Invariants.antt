use Rattle.std.proofs.Common.{take}
use Rattle.store_tables.specs.Changes.{ExtendsChanges}
use Rattle.store_accounts.specs.Delivery.{forgotten}
use Rattle.store_accounts.proofs.delivery.push_forgotten.Given as goal

abbrev pub invariant-loop-key : goal.invariant-loop-key
invariant-loop-key l = ExtendsChanges l.user (forgotten l.user (take l.key-index l.keys)) l.initial.changes.items l.changes.items
