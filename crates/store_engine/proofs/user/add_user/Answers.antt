use Rattle.std.proofs.Common.{◌≡◌, is_some, true, false, OnOk, IfErr, None, subst, sym, ◌∙◌, rules}
use Rattle.sqlite.specs.Held.{state}
use Rattle.store_accounts.specs.declared.refusal.Refusal.TheVariants.{Memory}
use Rattle.store_accounts.specs.Account.{new_user, renews}
use Rattle.store_accounts.specs.Promises.{IsFree, WritesStore, WritesUser}
use Rattle.store_accounts.specs.Refusals.{IsTransient}
use Rattle.store_engine.specs.Limits.{IsNewUser}
use Rattle.store_engine.specs.Lookups.{over_standing}
use Rattle.store_engine.proofs.UserLemmas.{over_refuses, transient_refuses, addition_bad, addition_lacks, addition_unread, addition_over, addition_written, addition_renewed}
use Rattle.store_engine.proofs.user.add_user.Goals as goal

pub returns-in_err-is_new_user-clause-acts : goal.returns-in_err-is_new_user-clause-acts
returns-in_err-is_new_user-clause-acts g c =
    let undone : OnOk c.from_residual.result ⊥ = search rules in
    let lack : IfErr c.from_residual.result (λ e. e ≡ Memory) = search rules in
    addition_lacks c.args.name.now c.args.address.now c.args.salt c.args.password.now (state g.S.Store c.args.store.now) c.from_residual.result undone lack

pub returns-then-not-branch-clause-acts : goal.returns-then-not-branch-clause-acts
returns-then-not-branch-clause-acts g c =
    let bad : IsNewUser c.args.name.now c.args.address.now c.args.password.now → ⊥ = search (rules, c.in_ok-is_new_user.ensures) in
    addition_bad c.args.name.now c.args.address.now c.args.salt c.args.password.now (state g.S.Store c.args.store.now) bad

pub returns-in_err-found-clause-acts : goal.returns-in_err-found-clause-acts
returns-in_err-found-clause-acts g c =
    let new : IsNewUser c.args.name.now c.args.address.now c.args.password.now = search (rules, c.in_ok-is_new_user.ensures) in
    let undone : OnOk c.from_residual-in_err-found.result ⊥ = search rules in
    let transient : IfErr c.from_residual-in_err-found.result IsTransient = search rules in
    addition_unread c.args.name.now c.args.address.now c.args.salt c.args.password.now new (state g.S.Store c.args.store.now) (state g.S.Store c.read_standing.new.store) c.read_standing.result c.read_standing.ensures c.from_residual-in_err-found.result undone transient

pub returns-in-Some-clause-acts : goal.returns-in-Some-clause-acts
returns-in-Some-clause-acts g c =
    let new : IsNewUser c.args.name.now c.args.address.now c.args.password.now = search (rules, c.in_ok-is_new_user.ensures) in
    addition_over c.args.name.now c.args.address.now c.args.salt c.args.password.now new (state g.S.Store c.args.store.now) (state g.S.Store c.read_standing.new.store) c.read_standing.result c.read_standing.ensures c.in_ok-found.found c.in_ok-found.was
    c.in-Some.refusal (sym c.refusal_over.ensures ∙ c.in-Some.is)

pub returns-in-Some-clause-named : goal.returns-in-Some-clause-named
returns-in-Some-clause-named g c =
    let new : IsNewUser c.args.name.now c.args.address.now c.args.password.now = search (rules, c.in_ok-is_new_user.ensures) in
    over_refuses c.args.name.now c.args.address.now c.args.password.now c.in_ok-found.found c.in-Some.refusal new (sym c.refusal_over.ensures ∙ c.in-Some.is)

pub returns-then-is_some-clause-acts : goal.returns-then-is_some-clause-acts
returns-then-is_some-clause-acts g c =
    let name = c.args.name.now in
    let address = c.args.address.now in
    let salt = c.args.salt in
    let new : IsNewUser c.args.name.now c.args.address.now c.args.password.now = search (rules, c.in_ok-is_new_user.ensures) in
    let clear : over_standing c.in_ok-found.found ≡ None = sym c.refusal_over.ensures ∙ c.in_default.is in
    let some : is_some c.in_ok-found.found ≡ true = sym c.is_some.ensures ∙ c.if-is_some.true in
    let mid = state g.S.Store c.read_standing.new.store in
    let end = state g.S.Store c.renew_user.new.self in
    let late = subst (λ d. WritesUser name (renews address (record { salt = salt; rounds = 10000; digest = d })) mid end c.renew_user.result) c.digest-digest.ensures c.renew_user.ensures in
    addition_renewed name address salt c.args.password.now new (state g.S.Store c.args.store.now) mid c.read_standing.result c.read_standing.ensures c.in_ok-found.found c.in_ok-found.was some clear end c.renew_user.result late

pub returns-then-is_some-clause-named : goal.returns-then-is_some-clause-named
returns-then-is_some-clause-named g c =
    let new : IsNewUser c.args.name.now c.args.address.now c.args.password.now = search (rules, c.in_ok-is_new_user.ensures) in
    transient_refuses c.args.name.now c.args.address.now c.args.password.now c.renew_user.result new c.renew_user.ensures.named

pub returns-clause-acts : goal.returns-clause-acts
returns-clause-acts g c =
    let name = c.args.name.now in
    let address = c.args.address.now in
    let salt = c.args.salt in
    let new : IsNewUser c.args.name.now c.args.address.now c.args.password.now = search (rules, c.in_ok-is_new_user.ensures) in
    let none : is_some c.in_ok-found.found ≡ false = sym c.is_some.ensures ∙ c.if-is_some.false in
    let mid = state g.S.Store c.read_standing.new.store in
    let end = state g.S.Store c.add_user.new.self in
    let late = subst (λ d. WritesStore (IsFree name) (new_user name address salt 10000 d) mid end c.add_user.result) c.digest-digest.ensures c.add_user.ensures.writes in
    addition_written name address salt c.args.password.now new (state g.S.Store c.args.store.now) mid c.read_standing.result c.read_standing.ensures c.in_ok-found.found c.in_ok-found.was none end c.add_user.result late

pub returns-clause-named : goal.returns-clause-named
returns-clause-named g c =
    let new : IsNewUser c.args.name.now c.args.address.now c.args.password.now = search (rules, c.in_ok-is_new_user.ensures) in
    transient_refuses c.args.name.now c.args.address.now c.args.password.now c.add_user.result new c.add_user.ensures.writes.named
