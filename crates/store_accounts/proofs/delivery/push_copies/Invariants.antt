use Rattle.std.proofs.Common.{take}
use Rattle.store_tables.specs.Changes.{ExtendsChanges}
use Rattle.store_accounts.specs.Delivery.{copies_added}
use Rattle.store_accounts.proofs.delivery.push_copies.Given as goal

abbrev pub invariant-loop-i : goal.invariant-loop-i
invariant-loop-i l = ExtendsChanges l.user (copies_added l.user l.next l.next (take l.i l.copies)) l.initial.changes.items l.changes.items
