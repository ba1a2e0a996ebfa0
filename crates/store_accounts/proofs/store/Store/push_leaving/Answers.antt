use Rattle.std.proofs.Common.{◌≡◌, ◌∙◌, ◌+◌, ◌++◌, ◌∷◌, ◌<◌, [], w64, pos, Ok, None, Some, OnOk, ap, sym, subst, rules, arith}
use Rattle.std.proofs.lemmas.Int.{to_z_pos}
use Rattle.sqlite.specs.Held.{state}
use Rattle.store_accounts.specs.Shows.{IsNthFiling}
use Rattle.store_accounts.specs.Taking.{AreLeaving, IsSharedBeside}
use Rattle.store_accounts.proofs.AmongLemmas.{among_made, among_failed, among_both, among_late}
use Rattle.store_accounts.proofs.LeavingLemmas.{leaving_end, leaving_next, pushes}
use Rattle.store_accounts.proofs.store.Store.push_leaving.Goals as goal

pub returns-in_default-clause-finds : goal.returns-in_default-clause-finds
returns-in_default-clause-finds g c =
    let small : c.args.at < 9223372036854775808 = omega (arith, c.ranges.at.fits) in
    let user = c.args.user.now in
    let folder = c.args.folder.now in
    let at = c.args.at in
    let before = c.args.leaving.now.items in
    among_made user (IsNthFiling user folder (pos at)) (pushes user folder at before before) (state g.S.Store c.args.self.now) (state g.S.Store c.nth_filing_of.new.self) c.nth_filing_of.result (rw (to_z_pos w64 c.args.at small) at c.nth_filing_of.ensures.finds)
    None (c.in_ok-copy.was ∙ ap Ok c.in_default.is) (Ok tt) (λ own is. leaving_end user folder at before own is)

pub returns-in_err-is_shared-clause-finds : goal.returns-in_err-is_shared-clause-finds
returns-in_err-is_shared-clause-finds g c =
    let none : OnOk c.from_residual-in_err-is_shared.result ⊥ = search rules in
    let small : c.args.at < 9223372036854775808 = omega (arith, c.ranges.at.fits) in
    let user = c.args.user.now in
    let folder = c.args.folder.now in
    let at = c.args.at in
    let before = c.args.leaving.now.items in
    let copy = c.in-Some.copy in
    among_late user (IsNthFiling user folder (pos at)) (IsSharedBeside user copy before) (pushes user folder at before before) (state g.S.Store c.args.self.now) (state g.S.Store c.nth_filing_of.new.self) (state g.S.Store c.is_shared_beside.new.self) c.nth_filing_of.result (Some copy)
    (c.in_ok-copy.was ∙ ap Ok c.in-Some.is) (rw (to_z_pos w64 c.args.at small) at c.nth_filing_of.ensures.finds) c.is_shared_beside.result (rw c.deref.ensures.value at c.is_shared_beside.ensures.finds) c.from_residual-in_err-is_shared.result none

pub returns-clause-finds : goal.returns-clause-finds
returns-clause-finds g c =
    let small : c.args.at < 9223372036854775808 = omega (arith, c.ranges.at.fits) in
    let user = c.args.user.now in
    let folder = c.args.folder.now in
    let at = c.args.at in
    let before = c.args.leaving.now.items in
    let copy = c.in-Some.copy in
    let shared = c.in_ok-is_shared.is_shared in
    let joined : c.push.new.self.items ≡ before ++ record { copy = copy; is_shared = shared } ∷ [] = search rules in
    among_both user (IsNthFiling user folder (pos at)) (IsSharedBeside user copy before) (pushes user folder at before c.push.new.self.items) (state g.S.Store c.args.self.now) (state g.S.Store c.nth_filing_of.new.self) (state g.S.Store c.is_shared_beside.new.self) c.nth_filing_of.result (Some copy)
    (c.in_ok-copy.was ∙ ap Ok c.in-Some.is) (rw (to_z_pos w64 c.args.at small) at c.nth_filing_of.ensures.finds) c.is_shared_beside.result (rw c.deref.ensures.value at c.is_shared_beside.ensures.finds) shared c.in_ok-is_shared.was tt
    (λ own is beside are. subst (λ l. AreLeaving user folder (at + 1) l own) (sym joined) (leaving_next user folder at before own copy shared is beside are))

pub returns-in_err-copy-clause-finds : goal.returns-in_err-copy-clause-finds
returns-in_err-copy-clause-finds g c =
    let small : c.args.at < 9223372036854775808 = omega (arith, c.ranges.at.fits) in
    let none : OnOk c.from_residual.result ⊥ = search rules in
    let user = c.args.user.now in
    let folder = c.args.folder.now in
    let before = c.args.leaving.now.items in
    among_failed user (IsNthFiling user folder (pos c.args.at)) (pushes user folder c.args.at before before) (state g.S.Store c.args.self.now) (state g.S.Store c.nth_filing_of.new.self) c.nth_filing_of.result
    (rw (to_z_pos w64 c.args.at small) at c.nth_filing_of.ensures.finds) c.from_residual.result none

pub returns-in_err-push-clause-finds : goal.returns-in_err-push-clause-finds
returns-in_err-push-clause-finds g c =
    let small : c.args.at < 9223372036854775808 = omega (arith, c.ranges.at.fits) in
    let none : OnOk c.from_residual-in_err-push.result ⊥ = search rules in
    let user = c.args.user.now in
    let folder = c.args.folder.now in
    let at = c.args.at in
    let before = c.args.leaving.now.items in
    let copy = c.in-Some.copy in
    among_late user (IsNthFiling user folder (pos at)) (IsSharedBeside user copy before) (pushes user folder at before c.push.new.self.items) (state g.S.Store c.args.self.now) (state g.S.Store c.nth_filing_of.new.self) (state g.S.Store c.is_shared_beside.new.self) c.nth_filing_of.result (Some copy)
    (c.in_ok-copy.was ∙ ap Ok c.in-Some.is) (rw (to_z_pos w64 c.args.at small) at c.nth_filing_of.ensures.finds) c.is_shared_beside.result (rw c.deref.ensures.value at c.is_shared_beside.ensures.finds) c.from_residual-in_err-push.result none
