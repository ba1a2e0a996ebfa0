-- What the parts so far make.
use Rattle.std.proofs.Common.{take}
use Rattle.store_tables.specs.Changes.{ExtendsChanges}
use Rattle.store_accounts.specs.WholeRows.{parts_made}
use Rattle.store_accounts.proofs.whole.push_parts.Given as goal

abbrev pub invariant-loop-part : goal.invariant-loop-part
invariant-loop-part l = ExtendsChanges l.user (parts_made l.user (take l.part-index l.parts)) l.initial.changes.items l.changes.items
