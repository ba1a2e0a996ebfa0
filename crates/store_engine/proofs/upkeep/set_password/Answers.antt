use Rattle.std.proofs.Common.{◌≡◌, true, Err, sym, ◌∙◌, subst, rules}
use Rattle.sqlite.specs.Held.{state}
use Rattle.store_accounts.specs.declared.refusal.Refusal.TheVariants.{BadUser}
use Rattle.store_accounts.specs.Account.{Account, changes_password}
use Rattle.store_accounts.specs.AccountRows.{profile_of}
use Rattle.store_accounts.specs.declared.profile.Profile.{Profile}
use Rattle.store_accounts.specs.Promises.{WritesUser}
use Rattle.store_engine.specs.declared.answer.Answer.TheVariants.{Changed}
use Rattle.store_engine.specs.declared.upkeep.Upkeep.TheVariants.{SetPassword}
use Rattle.store_engine.specs.Limits as limits
use Rattle.store_engine.specs.Upkeep.{kept_password}
use Rattle.store_engine.proofs.KeepingLemmas.{keeping_unfit, opened_unread, opened_written, password_bad, password_shut, password_makes}
use Rattle.store_engine.proofs.upkeep.set_password.Goals as goal

abbrev Known : Profile → Account → Type 0
Known profile a = profile ≡ profile_of a

pub returns-then-not-is_password : goal.returns-then-not-is_password
returns-then-not-is_password g c =
    keeping_unfit c.args.user.now (SetPassword c.args.salt.now c.args.password.now) (state g.S.Store c.args.store.now) BadUser
    (password_bad c.args.salt.now c.args.password.now (sym c.is_password.ensures ∙ c.if-not-is_password.true))

pub returns-in_err-profile : goal.returns-in_err-profile
returns-in_err-profile g c =
    let fit : limits.is_password c.args.password.now ≡ true = sym c.is_password.ensures ∙ c.if-not-is_password.false in
    let is : c.from_residual.result ≡ Err c.in_err-profile.field-0.0 = search rules in
    opened_unread c.args.user.now (SetPassword c.args.salt.now c.args.password.now) fit (password_shut c.args.salt.now c.args.password.now fit) Known (state g.S.Store c.args.store.now) (state g.S.Store c.profile.new.store) c.in_err-profile.field-0.0 c.from_residual.result is c.in_err-profile.ensures

pub returns : goal.returns
returns g c =
    let user = c.args.user.now in
    let salt = c.args.salt.now in
    let password = c.args.password.now in
    let fit : limits.is_password c.args.password.now ≡ true = sym c.is_password.ensures ∙ c.if-not-is_password.false in
    let mid = state g.S.Store c.profile.new.store in
    let end = state g.S.Store c.set_password-changed.new.self in
    let late = subst (λ d. WritesUser user (changes_password (record { salt = salt; rounds = 10000; digest = d })) mid end c.set_password-changed.result) c.digest-digest.ensures c.set_password-changed.ensures in
    opened_written user (SetPassword salt password) fit (password_shut salt password fit) Known (state g.S.Store c.args.store.now) mid c.profile.result c.in_ok-profile.field-0 c.in_ok-profile.was c.profile.ensures (changes_password (kept_password salt password)) Changed
    (λ o account is fits. password_makes salt password fit o account is) end c.set_password-changed.result late c.and.result c.and.ensures
