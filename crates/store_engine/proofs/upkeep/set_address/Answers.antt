use Rattle.std.proofs.Common.{◌≡◌, Err, OnOk, IfErr, rules}
use Rattle.sqlite.specs.Held.{state}
use Rattle.store_accounts.specs.declared.refusal.Refusal.TheVariants.{Memory, BadUser}
use Rattle.store_accounts.specs.Account.{Account, changes_address}
use Rattle.store_accounts.specs.AccountRows.{profile_of}
use Rattle.store_accounts.specs.declared.profile.Profile.{Profile}
use Rattle.store_engine.specs.declared.answer.Answer.TheVariants.{Changed}
use Rattle.store_engine.specs.declared.upkeep.Upkeep.TheVariants.{SetAddress}
use Rattle.store_engine.specs.Limits.{IsOwnAddress}
use Rattle.store_engine.proofs.KeepingLemmas.{keeping_unfit, keeping_lacks, opened_unread, opened_written, address_bad, address_shut, address_makes}
use Rattle.store_engine.proofs.upkeep.set_address.Goals as goal

abbrev Known : Profile → Account → Type 0
Known profile a = profile ≡ profile_of a

pub returns-in_err-is_own_address : goal.returns-in_err-is_own_address
returns-in_err-is_own_address g c =
    let undone : OnOk c.from_residual.result ⊥ = search rules in
    let lack : IfErr c.from_residual.result (λ e. e ≡ Memory) = search rules in
    keeping_lacks c.args.user.now (SetAddress c.args.address.now) (state g.S.Store c.args.store.now) c.from_residual.result tt undone lack

pub returns-then-not-branch : goal.returns-then-not-branch
returns-then-not-branch g c =
    let bad : IsOwnAddress c.args.address.now → ⊥ = search (rules, c.in_ok-is_own_address.ensures) in
    keeping_unfit c.args.user.now (SetAddress c.args.address.now) (state g.S.Store c.args.store.now) BadUser (address_bad c.args.address.now bad)

pub returns-in_err-profile : goal.returns-in_err-profile
returns-in_err-profile g c =
    let fit : IsOwnAddress c.args.address.now = search (rules, c.in_ok-is_own_address.ensures) in
    let is : c.from_residual-in_err-profile.result ≡ Err c.in_err-profile.field-0.0 = search rules in
    opened_unread c.args.user.now (SetAddress c.args.address.now) fit (address_shut c.args.address.now fit) Known (state g.S.Store c.args.store.now) (state g.S.Store c.profile.new.store) c.in_err-profile.field-0.0 c.from_residual-in_err-profile.result is c.in_err-profile.ensures

pub returns : goal.returns
returns g c =
    let fit : IsOwnAddress c.args.address.now = search (rules, c.in_ok-is_own_address.ensures) in
    opened_written c.args.user.now (SetAddress c.args.address.now) fit (address_shut c.args.address.now fit) Known (state g.S.Store c.args.store.now) (state g.S.Store c.profile.new.store) c.profile.result c.in_ok-profile.field-0 c.in_ok-profile.was c.profile.ensures (changes_address c.args.address.now) Changed
    (λ o account is fits. address_makes c.args.address.now fit o account is) (state g.S.Store c.set_address-changed.new.self) c.set_address-changed.result c.set_address-changed.ensures c.and.result c.and.ensures
