-- One user more, until none is left.
use Rattle.std.proofs.Common.{◌≡◌, [], Err, OnOk, subst, rules}
use Rattle.sqlite.specs.Held.{state}
use Rattle.store_accounts.specs.Users.{FindsOver}
use Rattle.store_accounts.specs.declared.refusal.Refusal.TheVariants.{Store}
use Rattle.cli_run.specs.AllUsers.{AddsLines}
use Rattle.cli_run.proofs.AllUserLemmas.{Listed, ok_of, listed_all, listed_failed, listed_first, listed_more, listed_stopped}
use Rattle.cli_run.proofs.all_users.all_lines.Goals as goal

pub returns-in_err-next-clause-lists : goal.returns-in_err-next-clause-lists
returns-in_err-next-clause-lists g c =
    let none : OnOk c.from_residual.result ⊥ = search rules in
    listed_failed (g.L.AccountLines.lines c.args.lines.now) (AddsLines (g.L.AccountLines.lines c.args.lines.now) _ _ _) (state g.S.Store c.args.store.now) (state g.S.Store c.add_user.new.store) c.add_user.result c.add_user.ensures.adds c.from_residual.result none

pub users-init : goal.users-init
users-init g c =
    let old = state g.S.Store c.args.store.now in
    let new = state g.S.Store c.add_user.new.store in
    let empty : c.new-text.result ≡ [] = search rules in
    let adds = subst (λ t. FindsOver (AddsLines (g.L.AccountLines.lines c.args.lines.now) [] t c.add_user.new.text) old new c.add_user.result) empty c.add_user.ensures.adds in
    listed_first (g.L.AccountLines.lines c.args.lines.now) c.add_user.new.text old new c.in_ok-next.next c.add_user.result c.in_ok-next.was adds

pub returns-in_default-clause-lists : goal.returns-in_default-clause-lists
returns-in_default-clause-lists g c =
    let old = state g.S.Store c.args.store.now in
    let mid = state g.S.Store c.users.store in
    listed_all (g.L.AccountLines.lines c.args.lines.now) old mid c.users.text (subst (λ n. FindsOver (Listed (g.L.AccountLines.lines c.args.lines.now) c.users.text) old mid (ok_of n)) c.in_default.is c.users.invariant)

pub users-preserved : goal.users-preserved
users-preserved g c =
    let old = state g.S.Store c.args.store.now in
    let mid = state g.S.Store c.users.store in
    let new = state g.S.Store c.add_user-in-users.new.store in
    let name = c.in-Some.name in
    let same : c.as_slice.result.now ≡ name = search rules in
    let adds = subst (λ n. FindsOver (AddsLines (g.L.AccountLines.lines c.args.lines.now) n c.users.text c.add_user-in-users.new.text) mid new c.add_user-in-users.result) same c.add_user-in-users.ensures.adds in
    listed_more (g.L.AccountLines.lines c.args.lines.now) old mid new name c.users.text (subst (λ n. FindsOver (Listed (g.L.AccountLines.lines c.args.lines.now) c.users.text) old mid (ok_of n)) c.in-Some.is c.users.invariant) c.add_user-in-users.new.text c.in_ok-next-2.next c.add_user-in-users.result c.in_ok-next-2.was adds

pub returns-in_err-next-2-clause-lists : goal.returns-in_err-next-2-clause-lists
returns-in_err-next-2-clause-lists g c =
    let none : OnOk c.from_residual-in_err-next-2.result ⊥ = search rules in
    listed_stopped (g.L.AccountLines.lines c.args.lines.now) c.users.text c.users.next (state g.S.Store c.args.store.now) (state g.S.Store c.users.store) (state g.S.Store c.add_user-in-users.new.store) c.users.invariant (AddsLines (g.L.AccountLines.lines c.args.lines.now) _ _ _) c.add_user-in-users.result c.add_user-in-users.ensures.adds
    c.from_residual-in_err-next-2.result none

pub returns-clause-lists : goal.returns-clause-lists
returns-clause-lists g c = listed_failed (g.L.AccountLines.lines c.args.lines.now) (Listed (g.L.AccountLines.lines c.args.lines.now) c.users.text) (state g.S.Store c.args.store.now) (state g.S.Store c.users.store) (ok_of c.users.next) c.users.invariant (Err Store) tt
