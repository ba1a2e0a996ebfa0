use Rattle.std.proofs.Common.{◌≡◌, ◌∙◌, OnOk, Vec, w64, SFits, to_z-of_z, rules}
use Rattle.std.specs.declared.alloc.Global.{Global}
use Rattle.sqlite.specs.Held.{state}
use Rattle.sqlite_value.specs.Order.{Row}
use Rattle.store_accounts.specs.Shows.{AreNthRows, IsNthFiling}
use Rattle.store_accounts.proofs.AmongLemmas.{among_made, among_failed}
use Rattle.store_accounts.proofs.NthLemmas.{nth_filing_is}
use Rattle.store_accounts.proofs.store.Store.nth_filing_of.Goals as goal

pub returns-in_err-rows-clause-finds : goal.returns-in_err-rows-clause-finds
returns-in_err-rows-clause-finds g c =
    let user = c.args.user.now in
    let folder = c.args.folder.now in
    let same : c.self.inside.conn ≡ c.args.self.now = search rules in
    let fits : SFits w64 c.args.count = search rules in
    let none : OnOk c.from_residual.result ⊥ = search rules in
    among_failed user (λ (rows : Vec Row Global). AreNthRows user folder c.args.count rows.items) (IsNthFiling user folder c.args.count) (state g.S.Store c.args.self.now) (state g.S.Store c.find_nth.new.conn) c.find_nth.result
    (rw (same, to_z-of_z fits) at c.find_nth.ensures.finds) c.from_residual.result none

pub returns-clause-finds : goal.returns-clause-finds
returns-clause-finds g c =
    let user = c.args.user.now in
    let folder = c.args.folder.now in
    let same : c.self.inside.conn ≡ c.args.self.now = search rules in
    let fits : SFits w64 c.args.count = search rules in
    among_made user (λ (rows : Vec Row Global). AreNthRows user folder c.args.count rows.items) (IsNthFiling user folder c.args.count) (state g.S.Store c.args.self.now) (state g.S.Store c.find_nth.new.conn) c.find_nth.result
    (rw (same, to_z-of_z fits) at c.find_nth.ensures.finds) c.in_ok-rows.rows c.in_ok-rows.was c.first_from_row.result
    (λ own is. nth_filing_is user folder c.args.count c.first_from_row.result c.deref.result.now own (λ a s n given. c.deref.ensures.value ∙ is a s n given) c.first_from_row.ensures.ok)
