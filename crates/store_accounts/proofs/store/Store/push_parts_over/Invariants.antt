-- What the parts so far make.
use Rattle.std.proofs.Common.{Ok, take}
use Rattle.sqlite.specs.Held.{state}
use Rattle.store_accounts.specs.WholeRows.{parts_over, PushesOver}
use Rattle.store_accounts.proofs.store.Store.push_parts_over.Given as goal

abbrev pub invariant-loop-part : goal.invariant-loop-part
invariant-loop-part g l = PushesOver l.user (parts_over l.user (take l.part-index l.parts)) (state g.S.Store l.initial.self) (state g.S.Store l.self) l.initial.changes.items l.changes.items (Ok tt)
