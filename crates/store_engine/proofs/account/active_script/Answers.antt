use Rattle.std.proofs.Common.{◌≡◌, List, ℕ, Option, Ok, OnOk, IfErr, rules}
use Rattle.std.specs.FinMap.{get}
use Rattle.sqlite.specs.Held.{state}
use Rattle.store_accounts.specs.Account.{Account}
use Rattle.store_accounts.specs.AccountRows.{profile_of}
use Rattle.store_accounts.specs.Refusals.{IsTransient}
use Rattle.store_accounts.specs.declared.profile.Profile.{Profile}
use Rattle.store_engine.specs.Lookups.{IsActiveScript}
use Rattle.store_engine.proofs.LookupLemmas.{looks_answer, looks_entered, looks_failed, none_active, some_active}
use Rattle.store_engine.proofs.account.active_script.Goals as goal

abbrev Known : Profile → Account → Type 0
Known profile account = profile ≡ profile_of account

abbrev Text : List ℕ → Option (List ℕ) → Account → Type 0
Text name text account = text ≡ get account.scripts name

pub returns-in_default : goal.returns-in_default
returns-in_default g c =
    looks_answer c.args.user.now Known IsActiveScript (state g.S.Store c.args.store.now) (state g.S.Store c.profile.new.store) c.profile.result c.in_ok-profile.profile c.in_ok-profile.was (Ok _) tt
    (λ account is. record { profile = is; text = none_active c.in_ok-profile.profile account is c.in_default.is }) c.profile.ensures

pub returns-in_err-text : goal.returns-in_err-text
returns-in_err-text g c =
    let none : OnOk c.from_residual-in_err-text.result ⊥ = search rules in
    let transient : IfErr c.from_residual-in_err-text.result IsTransient = search rules in
    looks_failed c.args.user.now Known (Text c.as_slice.result.now) IsActiveScript (state g.S.Store c.args.store.now) (state g.S.Store c.profile.new.store) (state g.S.Store c.script_of.new.self) c.profile.result c.in_ok-profile.profile
    c.in_ok-profile.was c.profile.ensures c.script_of.result c.script_of.ensures c.from_residual-in_err-text.result none transient

pub returns : goal.returns
returns g c =
    looks_entered c.args.user.now Known (Text c.as_slice.result.now) IsActiveScript (state g.S.Store c.args.store.now) (state g.S.Store c.profile.new.store) (state g.S.Store c.script_of.new.self) c.profile.result c.in_ok-profile.profile
    c.in_ok-profile.was c.profile.ensures c.script_of.result c.script_of.ensures c.in_ok-text.text c.in_ok-text.was _
    (λ account is read. record { profile = is; text = some_active c.in_ok-profile.profile account c.in-Some.name c.as_slice.result.now c.in_ok-text.text is c.in-Some.is c.as_slice.ensures read })
