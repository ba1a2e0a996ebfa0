use Rattle.std.proofs.Common.{◌≡◌, OnOk, rules}
use Rattle.sqlite.specs.Held.{state}
use Rattle.store_accounts.proofs.UserLemmas.{user_found, user_refused}
use Rattle.store_accounts.proofs.store.Store.next_user.Goals as goal

pub returns-in_err-rows-clause-next : goal.returns-in_err-rows-clause-next
returns-in_err-rows-clause-next g c =
    let same : c.self.inside.conn ≡ c.args.self.now = search rules in
    let none : OnOk c.from_residual.result ⊥ = search rules in
    user_refused c.args.name.now (state g.S.Store c.args.self.now) (state g.S.Store c.find_later_user.new.conn) c.find_later_user.result (rw same at c.find_later_user.ensures.finds) c.from_residual.result none

pub returns-clause-next : goal.returns-clause-next
returns-clause-next g c =
    let same : c.self.inside.conn ≡ c.args.self.now = search rules in
    user_found c.args.name.now (state g.S.Store c.args.self.now) (state g.S.Store c.find_later_user.new.conn) c.find_later_user.result (rw same at c.find_later_user.ensures.finds) c.in_ok-rows.rows c.in_ok-rows.was c.first_from_row.result
    (rw c.deref.ensures.value at c.first_from_row.ensures.ok)
