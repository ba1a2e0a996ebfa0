use Rattle.std.proofs.Common.{◌≡◌, ◌∙◌, sym, Ok, Some, None, OnOk, IfErr, rules}
use Rattle.sqlite.specs.Held.{state}
use Rattle.store_accounts.specs.Refusals.{IsTransient}
use Rattle.store_accounts.proofs.AfterLemmas.{account_entered, account_shut, account_missing, account_unread}
use Rattle.store_accounts.proofs.store.Store.enter.Goals as goal

pub returns-in_err-profile : goal.returns-in_err-profile
returns-in_err-profile g c =
    let none : OnOk c.from_residual.result ⊥ = search rules in
    let transient : IfErr c.from_residual.result IsTransient = search rules in
    account_unread c.args.user.now (state g.S.Store c.args.self.now) (state g.S.Store c.account.new.self) c.account.result c.account.ensures c.from_residual.result none transient

pub returns-in_default : goal.returns-in_default
returns-in_default g c =
    let is : c.account.result ≡ Ok None = cc in
    account_missing c.args.user.now (state g.S.Store c.args.self.now) (state g.S.Store c.account.new.self) c.account.result c.account.ensures is

pub returns-then-is_closed : goal.returns-then-is_closed
returns-then-is_closed g c =
    let is : c.account.result ≡ Ok (Some c.in-Some.profile) = cc in
    account_shut c.args.user.now (state g.S.Store c.args.self.now) (state g.S.Store c.account.new.self) c.account.result c.account.ensures c.in-Some.profile is (sym c.is_closed.ensures ∙ c.if-is_closed.true)

pub returns : goal.returns
returns g c =
    let is : c.account.result ≡ Ok (Some c.in-Some.profile) = cc in
    account_entered c.args.user.now (state g.S.Store c.args.self.now) (state g.S.Store c.account.new.self) c.account.result c.account.ensures c.in-Some.profile is (sym c.is_closed.ensures ∙ c.if-is_closed.false)
