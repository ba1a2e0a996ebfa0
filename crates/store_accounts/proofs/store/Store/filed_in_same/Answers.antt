use Rattle.std.proofs.Common.{◌≡◌, ◌∙◌, pos, refl, OnOk, Vec, w64, SFits, to_z-of_z, rules}
use Rattle.std.specs.declared.alloc.Global.{Global}
use Rattle.sqlite.specs.Held.{state}
use Rattle.sqlite_value.specs.Order.{Row}
use Rattle.store_accounts.specs.FirstCells.{first_three}
use Rattle.store_accounts.specs.Next.{filed_cells, filed_cmp, IsFiled, ShowLaterNumber, LeastFiled, IsLaterNumber}
use Rattle.store_accounts.proofs.AllLemmas.{all_made, all_failed}
use Rattle.store_accounts.proofs.LeastLemmas.{shown_least}
use Rattle.store_accounts.proofs.store.Store.filed_in_same.Goals as goal

pub returns-in_err-rows-clause-finds : goal.returns-in_err-rows-clause-finds
returns-in_err-rows-clause-finds g c =
    let start = c.args.start.now in
    let same : c.self.inside.conn ≡ c.args.self.now = search rules in
    let fits : SFits w64 c.in_ok-n.n = search rules in
    let number = to_z-of_z fits ∙ c.in_ok-n.ensures.same in
    let none : OnOk c.from_residual-in_err-rows.result ⊥ = search rules in
    all_failed (λ (rows : Vec Row Global). ShowLaterNumber start.user start.folder (pos start.number) rows.items) (LeastFiled (IsLaterNumber start.user start.folder start.number)) (state g.S.Store c.args.self.now) (state g.S.Store c.find_later_number.new.conn) c.find_later_number.result (rw (same, c.as_slice.ensures, c.as_slice-2.ensures, number) at c.find_later_number.ensures.finds)
    c.from_residual-in_err-rows.result none

pub returns-clause-finds : goal.returns-clause-finds
returns-clause-finds g c =
    let start = c.args.start.now in
    let same : c.self.inside.conn ≡ c.args.self.now = search rules in
    let fits : SFits w64 c.in_ok-n.n = search rules in
    let number = to_z-of_z fits ∙ c.in_ok-n.ensures.same in
    all_made (λ (rows : Vec Row Global). ShowLaterNumber start.user start.folder (pos start.number) rows.items) (LeastFiled (IsLaterNumber start.user start.folder start.number)) (state g.S.Store c.args.self.now) (state g.S.Store c.find_later_number.new.conn) c.find_later_number.result (rw (same, c.as_slice.ensures, c.as_slice-2.ensures, number) at c.find_later_number.ensures.finds)
    c.in_ok-rows.rows c.in_ok-rows.was c.first_from_row.result
    (λ tables shown. shown_least filed_cells first_three filed_cmp (IsFiled tables) (IsLaterNumber start.user start.folder start.number) c.first_from_row.result c.deref.result.now c.in_ok-rows.rows.items c.deref.ensures.value (shown start.number refl) c.first_from_row.ensures.ok)
