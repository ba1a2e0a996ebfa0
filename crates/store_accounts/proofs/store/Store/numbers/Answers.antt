use Rattle.std.proofs.Common.{◌≡◌, Err, List, ℕ, length, rules}
use Rattle.sqlite.specs.Held.{state}
use Rattle.store_accounts.specs.Account.{Account, messages_in}
use Rattle.store_accounts.specs.AccountRows.{profile_of}
use Rattle.store_accounts.specs.declared.profile.Profile.{Profile}
use Rattle.store_accounts.specs.FolderNumbers.{AreNumbersOf}
use Rattle.store_accounts.proofs.KeepLemmas.{reads_refused}
use Rattle.store_accounts.proofs.OwnLemmas.{own_enters, own_refused, own_reads}
use Rattle.store_accounts.proofs.ListedLemmas.{as_many}
use Rattle.store_accounts.proofs.store.Store.numbers.Goals as goal

abbrev Known : Profile → Account → Type 0
Known profile a = profile ≡ profile_of a

pub returns-in_err-enter-clause-count : goal.returns-in_err-enter-clause-count
returns-in_err-enter-clause-count g c =
    let is : c.from_residual.result ≡ Err c.in_err-enter.field-0.0 = search rules in
    reads_refused c.args.user.now Known (λ numbers a. length numbers ≡ length (messages_in a.folders c.args.folder.now)) (state g.S.Store c.args.self.now) (state g.S.Store c.enter.new.self) c.in_err-enter.field-0.0 c.from_residual.result is c.in_err-enter.ensures

pub returns-in_err-enter-clause-numbers : goal.returns-in_err-enter-clause-numbers
returns-in_err-enter-clause-numbers g c =
    let is : c.from_residual.result ≡ Err c.in_err-enter.field-0.0 = search rules in
    own_refused c.args.user.now Known (AreNumbersOf c.args.user.now c.args.folder.now) (state g.S.Store c.args.self.now) (state g.S.Store c.enter.new.self) c.in_err-enter.field-0.0 c.from_residual.result is c.in_err-enter.ensures

pub returns-clause-numbers : goal.returns-clause-numbers
returns-clause-numbers g c =
    let user = c.args.user.now in
    own_enters user Known (AreNumbersOf user c.args.folder.now) (state g.S.Store c.args.self.now) (state g.S.Store c.enter.new.self) (state g.S.Store c.numbers_of.new.self) c.enter.result c.in_ok-enter.field-0 c.in_ok-enter.was c.enter.ensures
    c.numbers_of.result c.numbers_of.ensures.named c.numbers_of.ensures.finds

pub returns-clause-count : goal.returns-clause-count
returns-clause-count g c =
    let user = c.args.user.now in
    let folder = c.args.folder.now in
    own_reads user (AreNumbersOf user folder) (λ numbers a. length numbers ≡ length (messages_in a.folders folder)) (state g.S.Store c.args.self.now) (state g.S.Store c.numbers_of.new.self) c.numbers_of.result
    (λ numbers own a s are. as_many user folder numbers own a s are)
    (own_enters user Known (AreNumbersOf user folder) (state g.S.Store c.args.self.now) (state g.S.Store c.enter.new.self) (state g.S.Store c.numbers_of.new.self) c.enter.result c.in_ok-enter.field-0 c.in_ok-enter.was c.enter.ensures
    c.numbers_of.result c.numbers_of.ensures.named c.numbers_of.ensures.finds)
