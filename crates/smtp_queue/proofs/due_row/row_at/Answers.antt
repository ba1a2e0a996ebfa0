-- The row was read, or the user has no open account.
use Rattle.std.proofs.Common.{◌≡◌, Err, rules}
use Rattle.sqlite.specs.Held.{state}
use Rattle.store_accounts.specs.declared.refusal.Refusal.TheVariants.{NoUser}
use Rattle.smtp_queue.proofs.StoreLemmas.{row_read, row_absent}
use Rattle.smtp_queue.proofs.due_row.row_at.Goals as goal

pub returns-in-Err-NoUser : goal.returns-in-Err-NoUser
returns-in-Err-NoUser g c =
    let is : c.outgoing-found.result ≡ Err NoUser = search rules in
    row_absent c.args.place.now c.as_slice.result.now c.as_slice.ensures (state g.S.Store c.args.store.now) (state g.S.Store c.outgoing-found.new.self) c.outgoing-found.result is c.outgoing-found.ensures

pub returns : goal.returns
returns g c = row_read c.args.place.now c.as_slice.result.now c.as_slice.ensures (state g.S.Store c.args.store.now) (state g.S.Store c.outgoing-found.new.self) c.outgoing-found.result c.outgoing-found.ensures

pub returns-2 : goal.returns-2
returns-2 g c = row_read c.args.place.now c.as_slice.result.now c.as_slice.ensures (state g.S.Store c.args.store.now) (state g.S.Store c.outgoing-found.new.self) c.outgoing-found.result c.outgoing-found.ensures
