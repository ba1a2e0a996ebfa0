-- The account was entered, and its names read.
use Rattle.std.proofs.Common.{◌≡◌, ℕ, List, OnOk, IfErr, sym, ap, rules}
use Rattle.std.specs.FinMap.{keys}
use Rattle.sqlite.specs.Held.{state}
use Rattle.store_accounts.specs.Account.{Account}
use Rattle.store_accounts.specs.AccountRows.{profile_of}
use Rattle.store_accounts.specs.Refusals.{IsTransient}
use Rattle.store_accounts.specs.declared.profile.Profile.{Profile}
use Rattle.managesieve_sessions.specs.Decisions.{AreScripts}
use Rattle.store_engine.specs.declared.account.NamedScripts.{NamedScripts}
use Rattle.store_engine.proofs.LookupLemmas.{looks_entered, looks_failed}
use Rattle.store_engine.proofs.account.named_scripts.Goals as goal

abbrev Known : Profile → Account → Type 0
Known profile account = profile ≡ profile_of account

abbrev Names : List (List ℕ) → Account → Type 0
Names names account = names ≡ keys account.scripts

abbrev There : NamedScripts → Account → Type 0
There there account = AreScripts there.names there.active account

pub returns-in_err-names : goal.returns-in_err-names
returns-in_err-names g c =
    let none : OnOk c.from_residual-in_err-names.result ⊥ = search rules in
    let transient : IfErr c.from_residual-in_err-names.result IsTransient = search rules in
    looks_failed c.args.user.now Known Names There (state g.S.Store c.args.store.now) (state g.S.Store c.profile.new.store) (state g.S.Store c.scripts_of.new.self) c.profile.result c.in_ok-profile.profile
    c.in_ok-profile.was c.profile.ensures c.scripts_of.result c.scripts_of.ensures c.from_residual-in_err-names.result none transient

pub returns : goal.returns
returns g c =
    looks_entered c.args.user.now Known Names There (state g.S.Store c.args.store.now) (state g.S.Store c.profile.new.store) (state g.S.Store c.scripts_of.new.self) c.profile.result c.in_ok-profile.profile
    c.in_ok-profile.was c.profile.ensures c.scripts_of.result c.scripts_of.ensures c.in_ok-names.names c.in_ok-names.was _
    (λ account is read. (read, sym (ap (λ (p : Profile). p.active) is)))
