use Rattle.std.proofs.Common.{◌≡◌, ◌∙◌, Ok, Some, None, OnOk, refl, ap, w64, SFits, to_z-of_z, rules}
use Rattle.sqlite.specs.Held.{state}
use Rattle.store_accounts.specs.Shows.{IsNthFiling, HasMessageOctets, IsNthOf}
use Rattle.store_accounts.proofs.AmongLemmas.{among_made, among_failed, among_both, among_late}
use Rattle.store_accounts.proofs.FirstLemmas.{nth_none, nth_some}
use Rattle.store_accounts.proofs.store.Store.nth_numbered_of.Goals as goal

pub returns-in_err-filing-clause-finds : goal.returns-in_err-filing-clause-finds
returns-in_err-filing-clause-finds g c =
    let fits : SFits w64 c.args.count = search rules in
    let none : OnOk c.from_residual.result ⊥ = search rules in
    among_failed c.args.user.now (IsNthFiling c.args.user.now c.args.folder.now c.args.count) (IsNthOf c.args.user.now c.args.folder.now c.args.count) (state g.S.Store c.args.self.now) (state g.S.Store c.nth_filing_of.new.self) c.nth_filing_of.result
    (rw (to_z-of_z fits) at c.nth_filing_of.ensures.finds) c.from_residual.result none

pub returns-in_default-clause-finds : goal.returns-in_default-clause-finds
returns-in_default-clause-finds g c =
    let fits : SFits w64 c.args.count = search rules in
    let user = c.args.user.now in
    let folder = c.args.folder.now in
    among_made user (IsNthFiling user folder c.args.count) (IsNthOf user folder c.args.count) (state g.S.Store c.args.self.now) (state g.S.Store c.nth_filing_of.new.self) c.nth_filing_of.result (rw (to_z-of_z fits) at c.nth_filing_of.ensures.finds)
    None (c.in_ok-filing.was ∙ ap Ok c.in_default.is) (Ok None) (λ own is. nth_none user folder c.args.count None own is refl)

pub returns-in_err-message-clause-finds : goal.returns-in_err-message-clause-finds
returns-in_err-message-clause-finds g c =
    let fits : SFits w64 c.args.count = search rules in
    let none : OnOk c.from_residual-in_err-message.result ⊥ = search rules in
    let user = c.args.user.now in
    let folder = c.args.folder.now in
    let first = c.in-Some.filing in
    among_late user (IsNthFiling user folder c.args.count) (HasMessageOctets user first.id) (IsNthOf user folder c.args.count) (state g.S.Store c.args.self.now) (state g.S.Store c.nth_filing_of.new.self) (state g.S.Store c.message_of.new.self) c.nth_filing_of.result (Some first)
    (c.in_ok-filing.was ∙ ap Ok c.in-Some.is) (rw (to_z-of_z fits) at c.nth_filing_of.ensures.finds) c.message_of.result c.message_of.ensures.finds c.from_residual-in_err-message.result none

pub returns-clause-finds : goal.returns-clause-finds
returns-clause-finds g c =
    let fits : SFits w64 c.args.count = search rules in
    let user = c.args.user.now in
    let folder = c.args.folder.now in
    let first = c.in-Some.filing in
    among_both user (IsNthFiling user folder c.args.count) (HasMessageOctets user first.id) (IsNthOf user folder c.args.count) (state g.S.Store c.args.self.now) (state g.S.Store c.nth_filing_of.new.self) (state g.S.Store c.message_of.new.self) c.nth_filing_of.result (Some first)
    (c.in_ok-filing.was ∙ ap Ok c.in-Some.is) (rw (to_z-of_z fits) at c.nth_filing_of.ensures.finds) c.message_of.result c.message_of.ensures.finds c.in_ok-message.message c.in_ok-message.was _ (λ own is has. nth_some user folder c.args.count (Some first) own is first c.in_ok-message.message refl has)
