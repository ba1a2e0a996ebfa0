use Rattle.std.proofs.Common.{◌≡◌, [], Err, rules}
use Rattle.sqlite.specs.Held.{state}
use Rattle.store_accounts.specs.declared.profile.Profile.{Profile}
use Rattle.store_accounts.specs.Account.{Account}
use Rattle.store_accounts.specs.AccountRows.{profile_of}
use Rattle.store_accounts.proofs.KeepLemmas.{reads_refused}
use Rattle.store_export.specs.Reading.{AreRead}
use Rattle.store_export.proofs.KeptLemmas.{enters_at}
use Rattle.store_export.proofs.contents.list_contents.Goals as goal

abbrev Known : Profile → Account → Type 0
Known profile a = profile ≡ profile_of a

pub returns-in_err-profile-clause-reads : goal.returns-in_err-profile-clause-reads
returns-in_err-profile-clause-reads g c =
    let a = state g.S.Store c.args.store.now in
    let is : c.from_residual.result ≡ Err c.in_err-profile.field-0.0 = search rules in
    reads_refused c.args.user.now Known (λ contents account. AreRead contents [] a.now account) a (state g.S.Store c.enter.new.self) c.in_err-profile.field-0.0 c.from_residual.result is c.in_err-profile.ensures

pub returns-clause-reads : goal.returns-clause-reads
returns-clause-reads g c =
    enters_at c.args.user.now Known (λ contents db account. AreRead contents [] db account) (state g.S.Store c.args.store.now) (state g.S.Store c.enter.new.self) (state g.S.Store c.list_of.new.store) c.enter.result c.in_ok-profile.profile
    c.in_ok-profile.was c.enter.ensures c.list_of.result c.list_of.ensures.reads
