use Rattle.std.proofs.Common.{take}
use Rattle.store_tables.specs.Changes.{ExtendsChanges}
use Rattle.store_accounts.specs.Delivery.{sent_on}
use Rattle.store_accounts.proofs.delivery.push_redirects.Given as goal

abbrev pub invariant-loop-i : goal.invariant-loop-i
invariant-loop-i l = ExtendsChanges l.user (sent_on l.user l.sender l.message l.next (take l.i l.targets)) l.initial.changes.items l.changes.items
