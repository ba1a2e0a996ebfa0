use Rattle.std.proofs.Common.{◌≡◌, Err, rules}
use Rattle.sqlite.specs.Held.{state}
use Rattle.store_accounts.specs.Account.{Account, takes_notices}
use Rattle.store_accounts.specs.AccountRows.{profile_of}
use Rattle.store_accounts.specs.declared.profile.Profile.{Profile}
use Rattle.store_engine.specs.declared.answer.Answer.TheVariants.{NoticesTaken}
use Rattle.store_engine.specs.declared.upkeep.Upkeep.TheVariants.{TakeNotices}
use Rattle.store_engine.proofs.KeepingLemmas.{opened_unread, opened_written, notices_shut, notices_makes}
use Rattle.store_engine.proofs.upkeep.take_notices.Goals as goal

abbrev Known : Profile → Account → Type 0
Known profile a = profile ≡ profile_of a

pub returns-in_err-profile : goal.returns-in_err-profile
returns-in_err-profile g c =
    let is : c.from_residual.result ≡ Err c.in_err-profile.field-0.0 = search rules in
    opened_unread c.args.user.now (TakeNotices c.args.until) tt (notices_shut c.args.until) Known (state g.S.Store c.args.store.now) (state g.S.Store c.profile.new.store) c.in_err-profile.field-0.0 c.from_residual.result is c.in_err-profile.ensures

pub returns : goal.returns
returns g c =
    opened_written c.args.user.now (TakeNotices c.args.until) tt (notices_shut c.args.until) Known (state g.S.Store c.args.store.now) (state g.S.Store c.profile.new.store) c.profile.result c.in_ok-profile.field-0 c.in_ok-profile.was c.profile.ensures (takes_notices c.args.until) NoticesTaken
    (λ o account is fits. notices_makes c.args.until o account is) (state g.S.Store c.take_notices-taken.new.self) c.take_notices-taken.result c.take_notices-taken.ensures c.and.result c.and.ensures
