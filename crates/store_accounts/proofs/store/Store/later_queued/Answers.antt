use Rattle.std.proofs.Common.{◌≡◌, ◌∙◌, pos, refl, OnOk, Vec, w64, SFits, to_z-of_z, rules}
use Rattle.std.specs.declared.alloc.Global.{Global}
use Rattle.sqlite.specs.Held.{state}
use Rattle.sqlite_value.specs.Order.{Row}
use Rattle.store_accounts.specs.FirstCells.{first_two}
use Rattle.store_accounts.specs.Next.{queue_key_cells, queued_cmp, IsQueued, ShowLaterId, LeastQueued, IsLaterId}
use Rattle.store_accounts.proofs.AllLemmas.{all_made, all_failed}
use Rattle.store_accounts.proofs.LeastLemmas.{shown_least}
use Rattle.store_accounts.proofs.store.Store.later_queued.Goals as goal

pub returns-in_err-rows-clause-finds : goal.returns-in_err-rows-clause-finds
returns-in_err-rows-clause-finds g c =
    let start = c.args.start.now in
    let same : c.self.inside.conn ≡ c.args.self.now = search rules in
    let fits : SFits w64 c.in_ok-id.id = search rules in
    let number = to_z-of_z fits ∙ c.in_ok-id.ensures.same in
    let none : OnOk c.from_residual-in_err-rows.result ⊥ = search rules in
    all_failed (λ (rows : Vec Row Global). ShowLaterId start.user (pos start.id) rows.items) (LeastQueued (IsLaterId start.user start.id)) (state g.S.Store c.args.self.now) (state g.S.Store c.find_later_id.new.conn) c.find_later_id.result (rw (same, c.as_slice.ensures, number) at c.find_later_id.ensures.finds)
    c.from_residual-in_err-rows.result none

pub returns-clause-finds : goal.returns-clause-finds
returns-clause-finds g c =
    let start = c.args.start.now in
    let same : c.self.inside.conn ≡ c.args.self.now = search rules in
    let fits : SFits w64 c.in_ok-id.id = search rules in
    let number = to_z-of_z fits ∙ c.in_ok-id.ensures.same in
    all_made (λ (rows : Vec Row Global). ShowLaterId start.user (pos start.id) rows.items) (LeastQueued (IsLaterId start.user start.id)) (state g.S.Store c.args.self.now) (state g.S.Store c.find_later_id.new.conn) c.find_later_id.result (rw (same, c.as_slice.ensures, number) at c.find_later_id.ensures.finds)
    c.in_ok-rows.rows c.in_ok-rows.was c.first_from_row.result
    (λ tables shown. shown_least queue_key_cells first_two queued_cmp (IsQueued tables) (IsLaterId start.user start.id) c.first_from_row.result c.deref.result.now c.in_ok-rows.rows.items c.deref.ensures.value (shown start.id refl) c.first_from_row.ensures.ok)
