use Rattle.std.proofs.Common.{◌≡◌, Err, rules}
use Rattle.sqlite.specs.Held.{state}
use Rattle.store_accounts.specs.Account.{Account, closes}
use Rattle.store_accounts.specs.AccountRows.{profile_of}
use Rattle.store_accounts.specs.declared.profile.Profile.{Profile}
use Rattle.store_engine.specs.declared.answer.Answer.TheVariants.{Closed}
use Rattle.store_engine.specs.declared.upkeep.Upkeep.TheVariants.{CloseAccount}
use Rattle.store_engine.proofs.KeepingLemmas.{opened_unread, opened_written, close_shut, close_makes}
use Rattle.store_engine.proofs.upkeep.close_account.Goals as goal

abbrev Known : Profile → Account → Type 0
Known profile a = profile ≡ profile_of a

pub returns-in_err-profile : goal.returns-in_err-profile
returns-in_err-profile g c =
    let is : c.from_residual.result ≡ Err c.in_err-profile.field-0.0 = search rules in
    opened_unread c.args.user.now CloseAccount tt close_shut Known (state g.S.Store c.args.store.now) (state g.S.Store c.profile.new.store) c.in_err-profile.field-0.0 c.from_residual.result is c.in_err-profile.ensures

pub returns : goal.returns
returns g c =
    opened_written c.args.user.now CloseAccount tt close_shut Known (state g.S.Store c.args.store.now) (state g.S.Store c.profile.new.store) c.profile.result c.in_ok-profile.field-0 c.in_ok-profile.was c.profile.ensures closes Closed
    (λ o account is fits. close_makes o account is) (state g.S.Store c.close_account-closed.new.self) c.close_account-closed.result c.close_account-closed.ensures c.and.result c.and.ensures
