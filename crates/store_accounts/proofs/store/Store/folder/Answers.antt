use Rattle.std.proofs.Common.{◌≡◌, Err, rules}
use Rattle.sqlite.specs.Held.{state}
use Rattle.store_accounts.specs.Account.{Account}
use Rattle.store_accounts.specs.AccountRows.{profile_of}
use Rattle.store_accounts.specs.declared.profile.Profile.{Profile}
use Rattle.store_accounts.specs.Account.{messages_in}
use Rattle.store_accounts.proofs.KeepLemmas.{reads_refused}
use Rattle.store_accounts.proofs.EnterLemmas.{enters}
use Rattle.store_accounts.proofs.store.Store.folder.Goals as goal

abbrev Known : Profile → Account → Type 0
Known profile a = profile ≡ profile_of a

pub returns-in_err-enter : goal.returns-in_err-enter
returns-in_err-enter g c =
    let is : c.from_residual.result ≡ Err c.in_err-enter.field-0.0 = search rules in
    reads_refused c.args.user.now Known (λ messages a. messages ≡ messages_in a.folders c.args.folder.now) (state g.S.Store c.args.self.now) (state g.S.Store c.enter.new.self) c.in_err-enter.field-0.0 c.from_residual.result is c.in_err-enter.ensures

pub returns : goal.returns
returns g c =
    enters c.args.user.now Known (state g.S.Store c.args.self.now) (state g.S.Store c.enter.new.self) (state g.S.Store c.folder_of.new.self) c.enter.result c.in_ok-enter.field-0 c.in_ok-enter.was c.enter.ensures (λ messages a. messages ≡ messages_in a.folders c.args.folder.now) c.folder_of.result c.folder_of.ensures
