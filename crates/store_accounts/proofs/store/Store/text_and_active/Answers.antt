use Rattle.std.proofs.Common.{◌≡◌, Err, OnOk, IfErr, ap, rules}
use Rattle.std.specs.FinMap.{get}
use Rattle.sqlite.specs.Held.{state}
use Rattle.store_accounts.specs.Account.{Account}
use Rattle.store_accounts.specs.AccountRows.{profile_of}
use Rattle.store_accounts.specs.Refusals.{IsTransient}
use Rattle.store_accounts.specs.ScriptRows.{HasTextAndActive}
use Rattle.store_accounts.specs.declared.profile.Profile.{Profile}
use Rattle.store_accounts.proofs.EnterLemmas.{enters_both, enters_failed}
use Rattle.store_accounts.proofs.KeepLemmas.{reads_refused}
use Rattle.store_accounts.proofs.store.Store.text_and_active.Goals as goal

abbrev Known : Profile → Account → Type 0
Known profile a = profile ≡ profile_of a

pub returns-in_err-profile : goal.returns-in_err-profile
returns-in_err-profile g c =
    let is : c.from_residual.result ≡ Err c.in_err-profile.field-0.0 = search rules in
    reads_refused c.args.user.now Known (HasTextAndActive c.args.name.now) (state g.S.Store c.args.self.now) (state g.S.Store c.enter.new.self) c.in_err-profile.field-0.0 c.from_residual.result is c.in_err-profile.ensures

pub returns-in_err-text : goal.returns-in_err-text
returns-in_err-text g c =
    let none : OnOk c.from_residual-in_err-text.result ⊥ = search rules in
    let transient : IfErr c.from_residual-in_err-text.result IsTransient = search rules in
    enters_failed c.args.user.now Known (state g.S.Store c.args.self.now) (state g.S.Store c.enter.new.self) (state g.S.Store c.script_of.new.self) c.enter.result c.in_ok-profile.profile c.in_ok-profile.was c.enter.ensures
    (λ text a. text ≡ get a.scripts c.args.name.now) c.script_of.result c.script_of.ensures (HasTextAndActive c.args.name.now) c.from_residual-in_err-text.result none transient

pub returns : goal.returns
returns g c =
    enters_both c.args.user.now Known (state g.S.Store c.args.self.now) (state g.S.Store c.enter.new.self) (state g.S.Store c.script_of.new.self) c.enter.result c.in_ok-profile.profile c.in_ok-profile.was c.enter.ensures
    (λ text a. text ≡ get a.scripts c.args.name.now) c.script_of.result c.in_ok-text.text c.in_ok-text.was c.script_of.ensures (HasTextAndActive c.args.name.now) _ (λ a is text. (text, ap (λ (p : Profile). p.active) is))
