-- The account was entered, and then its scripts' names were read.
use Rattle.std.proofs.Common.{◌≡◌, ℕ, List, Err, OnOk, IfErr, sym, ap, rules}
use Rattle.std.specs.FinMap.{keys}
use Rattle.sqlite.specs.Held.{state}
use Rattle.store_accounts.specs.Account.{Account}
use Rattle.store_accounts.specs.AccountRows.{profile_of}
use Rattle.store_accounts.specs.Refusals.{IsTransient}
use Rattle.store_accounts.specs.declared.profile.Profile.{Profile}
use Rattle.store_accounts.proofs.EnterLemmas.{enters_both, enters_failed}
use Rattle.store_accounts.proofs.KeepLemmas.{reads_refused}
use Rattle.managesieve_sessions.specs.Decisions.{AreScripts}
use Rattle.cli_run.specs.declared.account_read.ScriptNames.{ScriptNames}
use Rattle.cli_run.proofs.account_read.script_names.Goals as goal

abbrev Known : Profile → Account → Type 0
Known profile account = profile ≡ profile_of account

abbrev Names : List (List ℕ) → Account → Type 0
Names names account = names ≡ keys account.scripts

abbrev Both : ScriptNames → Account → Type 0
Both found account = AreScripts found.names found.active account

pub returns-in_err-profile : goal.returns-in_err-profile
returns-in_err-profile g c =
    let is : c.from_residual.result ≡ Err c.in_err-profile.field-0.0 = search rules in
    reads_refused c.args.user.now Known Both (state g.S.Store c.args.store.now) (state g.S.Store c.enter.new.self) c.in_err-profile.field-0.0 c.from_residual.result is c.in_err-profile.ensures

pub returns-in_err-names : goal.returns-in_err-names
returns-in_err-names g c =
    let none : OnOk c.from_residual-in_err-names.result ⊥ = search rules in
    let transient : IfErr c.from_residual-in_err-names.result IsTransient = search rules in
    enters_failed c.args.user.now Known (state g.S.Store c.args.store.now) (state g.S.Store c.enter.new.self) (state g.S.Store c.scripts_of.new.self) c.enter.result c.in_ok-profile.profile c.in_ok-profile.was c.enter.ensures
    Names c.scripts_of.result c.scripts_of.ensures Both c.from_residual-in_err-names.result none transient

pub returns : goal.returns
returns g c =
    enters_both c.args.user.now Known (state g.S.Store c.args.store.now) (state g.S.Store c.enter.new.self) (state g.S.Store c.scripts_of.new.self) c.enter.result c.in_ok-profile.profile c.in_ok-profile.was c.enter.ensures
    Names c.scripts_of.result c.in_ok-names.names c.in_ok-names.was c.scripts_of.ensures Both _ (λ a is names. (names, sym (ap (λ (p : Profile). p.active) is)))
