use Rattle.std.proofs.Common.{◌≡◌, OnOk, Vec, rules}
use Rattle.std.specs.declared.alloc.Global.{Global}
use Rattle.sqlite.specs.Held.{state}
use Rattle.sqlite_value.specs.Order.{Row}
use Rattle.store_accounts.specs.FirstCells.{first_three}
use Rattle.store_accounts.specs.Next.{filed_cells, filed_cmp, IsFiled, ShowFiled, LeastFiled, IsLaterOwner}
use Rattle.store_accounts.proofs.AllLemmas.{all_made, all_failed}
use Rattle.store_accounts.proofs.LeastLemmas.{shown_least}
use Rattle.store_accounts.proofs.store.Store.filed_of_later.Goals as goal

pub returns-in_err-rows-clause-finds : goal.returns-in_err-rows-clause-finds
returns-in_err-rows-clause-finds g c =
    let same : c.self.inside.conn ≡ c.args.self.now = search rules in
    let none : OnOk c.from_residual.result ⊥ = search rules in
    all_failed (λ (rows : Vec Row Global). ShowFiled (IsLaterOwner c.args.user.now) rows.items) (LeastFiled (IsLaterOwner c.args.user.now)) (state g.S.Store c.args.self.now) (state g.S.Store c.find_later_owner.new.conn) c.find_later_owner.result (rw same at c.find_later_owner.ensures.finds) c.from_residual.result none

pub returns-clause-finds : goal.returns-clause-finds
returns-clause-finds g c =
    let same : c.self.inside.conn ≡ c.args.self.now = search rules in
    all_made (λ (rows : Vec Row Global). ShowFiled (IsLaterOwner c.args.user.now) rows.items) (LeastFiled (IsLaterOwner c.args.user.now)) (state g.S.Store c.args.self.now) (state g.S.Store c.find_later_owner.new.conn) c.find_later_owner.result (rw same at c.find_later_owner.ensures.finds) c.in_ok-rows.rows c.in_ok-rows.was c.first_from_row.result
    (λ tables shown. shown_least filed_cells first_three filed_cmp (IsFiled tables) (IsLaterOwner c.args.user.now) c.first_from_row.result c.deref.result.now c.in_ok-rows.rows.items c.deref.ensures.value (shown) c.first_from_row.ensures.ok)
