use Rattle.std.proofs.Common.{take}
use Rattle.store_tables.specs.Changes.{ExtendsChanges}
use Rattle.store_accounts.specs.Delivery.{moments_kept}
use Rattle.store_accounts.proofs.delivery.push_sent.Given as goal

abbrev pub invariant-loop-handle : goal.invariant-loop-handle
invariant-loop-handle l = ExtendsChanges l.user (moments_kept l.user l.message l.moment (take l.handle-index l.handles)) l.initial.changes.items l.changes.items
