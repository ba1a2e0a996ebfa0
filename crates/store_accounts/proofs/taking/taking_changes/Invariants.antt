use Rattle.std.proofs.Common.{take}
use Rattle.store_tables.specs.Changes.{ExtendsChanges}
use Rattle.store_accounts.specs.Taking.{copies_taken}
use Rattle.store_accounts.proofs.taking.taking_changes.Given as goal

abbrev pub invariant-loop-one : goal.invariant-loop-one
invariant-loop-one l = ExtendsChanges l.user (copies_taken l.user l.folder (take l.one-index l.leaving)) l.initial.changes.items l.changes.items
