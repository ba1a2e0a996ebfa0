use Rattle.std.proofs.Common.{◌≡◌, ◌∙◌, OnOk, Vec, w64, SFits, to_z-of_z, rules}
use Rattle.std.specs.declared.alloc.Global.{Global}
use Rattle.sqlite.specs.Held.{state}
use Rattle.sqlite_value.specs.Order.{Row}
use Rattle.store_accounts.specs.Listing.{HasNoticeRow, IsNoticeOf}
use Rattle.store_accounts.proofs.AmongLemmas.{among_made, among_failed}
use Rattle.store_accounts.proofs.NoticeLemmas.{notice_told}
use Rattle.store_accounts.proofs.store.Store.notice_of.Goals as goal

pub returns-in_err-rows-clause-finds : goal.returns-in_err-rows-clause-finds
returns-in_err-rows-clause-finds g c =
    let user = c.args.user.now in
    let same : c.self.inside.conn ≡ c.args.self.now = search rules in
    let none : OnOk c.from_residual-in_err-rows.result ⊥ = search rules in
    among_failed user (λ (rows : Vec Row Global). HasNoticeRow user _ rows.items) (IsNoticeOf user c.args.id) (state g.S.Store c.args.self.now) (state g.S.Store c.find_notice.new.conn) c.find_notice.result
    (rw same at c.find_notice.ensures.finds) c.from_residual-in_err-rows.result none

pub returns-clause-finds : goal.returns-clause-finds
returns-clause-finds g c =
    let user = c.args.user.now in
    let same : c.self.inside.conn ≡ c.args.self.now = search rules in
    let fits : SFits w64 c.in_ok-id.id = search rules in
    let number = to_z-of_z fits ∙ c.in_ok-id.ensures.same in
    among_made user (λ (rows : Vec Row Global). HasNoticeRow user _ rows.items) (IsNoticeOf user c.args.id) (state g.S.Store c.args.self.now) (state g.S.Store c.find_notice.new.conn) c.find_notice.result
    (rw same at c.find_notice.ensures.finds) c.in_ok-rows.rows c.in_ok-rows.was c.first_from_row.result
    (λ own is. notice_told user c.args.id c.first_from_row.result c.in_ok-rows.rows.items own (rw number at is) (rw c.deref.ensures.value at c.first_from_row.ensures.ok))
