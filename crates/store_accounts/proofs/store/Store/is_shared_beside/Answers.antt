use Rattle.std.proofs.Common.{◌≡◌, ◌∙◌, Ok, true, false, sym, subst, rules}
use Rattle.std.specs.List.{list_any}
use Rattle.sqlite.specs.Held.{state}
use Rattle.store_accounts.specs.Listing.{AreFilingsOf}
use Rattle.store_accounts.specs.Shows.{IsShared}
use Rattle.store_accounts.specs.Taking.{is_other_beside, IsSharedBeside}
use Rattle.store_accounts.proofs.AmongLemmas.{among_made, among_both}
use Rattle.store_accounts.proofs.LeavingLemmas.{no_other, other_stays, other_listed}
use Rattle.store_accounts.proofs.store.Store.is_shared_beside.Goals as goal

pub returns-then-not-is_shared-clause-finds : goal.returns-then-not-is_shared-clause-finds
returns-then-not-is_shared-clause-finds g c =
    let user = c.args.user.now in
    let copy = c.args.copy.now in
    let none : c.in_ok-is_shared.is_shared ≡ false = search rules in
    among_made user (IsShared user copy) (IsSharedBeside user copy c.args.gone.now) (state g.S.Store c.args.self.now) (state g.S.Store c.has_other_copy.new.self) c.has_other_copy.result c.has_other_copy.ensures.finds c.in_ok-is_shared.is_shared c.in_ok-is_shared.was (Ok false)
    (λ own is. no_other user copy c.args.gone.now own (subst (λ b. IsShared user copy b own) none is))

pub returns-then-not-has_message-clause-finds : goal.returns-then-not-has_message-clause-finds
returns-then-not-has_message-clause-finds g c =
    let user = c.args.user.now in
    let copy = c.args.copy.now in
    let some : c.in_ok-is_shared.is_shared ≡ true = search rules in
    let apart : c.has_message.result ≡ false = search rules in
    among_made user (IsShared user copy) (IsSharedBeside user copy c.args.gone.now) (state g.S.Store c.args.self.now) (state g.S.Store c.has_other_copy.new.self) c.has_other_copy.result c.has_other_copy.ensures.finds c.in_ok-is_shared.is_shared c.in_ok-is_shared.was (Ok true)
    (λ own is. other_stays user copy c.args.gone.now own (subst (λ b. IsShared user copy b own) some is) (sym c.has_message.ensures ∙ apart))

pub returns-clause-finds : goal.returns-clause-finds
returns-clause-finds g c =
    let user = c.args.user.now in
    let copy = c.args.copy.now in
    let gone = c.args.gone.now in
    let told : c.has_other_beside.result ≡ list_any (is_other_beside copy gone) c.in_ok-all.all = search rules in
    among_both user (IsShared user copy) (AreFilingsOf user) (IsSharedBeside user copy gone) (state g.S.Store c.args.self.now) (state g.S.Store c.has_other_copy.new.self) (state g.S.Store c.filings_of.new.self) c.has_other_copy.result
    c.in_ok-is_shared.is_shared c.in_ok-is_shared.was c.has_other_copy.ensures.finds c.filings_of.result c.filings_of.ensures.finds c.in_ok-all.all c.in_ok-all.was c.has_other_beside.result
    (λ own is are. subst (λ b. IsSharedBeside user copy gone b own) (sym told) (other_listed user copy gone own c.in_ok-all.all are))
