use Rattle.std.proofs.Common.{◌≡◌, Err, pos, rules}
use Rattle.sqlite.specs.Held.{state}
use Rattle.store_accounts.specs.Account.{Account}
use Rattle.store_accounts.specs.AccountRows.{profile_of}
use Rattle.store_accounts.specs.declared.profile.Profile.{Profile}
use Rattle.store_accounts.specs.CopyRows.{IsFirstIn}
use Rattle.store_accounts.specs.Shows.{IsFirstOf, IsNthOf}
use Rattle.store_accounts.proofs.KeepLemmas.{reads_refused}
use Rattle.store_accounts.proofs.OwnLemmas.{own_enters, own_refused, own_reads, own_told}
use Rattle.store_accounts.proofs.FirstLemmas.{first_shows, nth_first}
use Rattle.store_accounts.proofs.store.Store.first_message.Goals as goal

abbrev Known : Profile → Account → Type 0
Known profile a = profile ≡ profile_of a

pub returns-in_err-enter-clause-first : goal.returns-in_err-enter-clause-first
returns-in_err-enter-clause-first g c =
    let is : c.from_residual.result ≡ Err c.in_err-enter.field-0.0 = search rules in
    reads_refused c.args.user.now Known (IsFirstIn c.args.folder.now) (state g.S.Store c.args.self.now) (state g.S.Store c.enter.new.self) c.in_err-enter.field-0.0 c.from_residual.result is c.in_err-enter.ensures

pub returns-in_err-enter-clause-numbered : goal.returns-in_err-enter-clause-numbered
returns-in_err-enter-clause-numbered g c =
    let is : c.from_residual.result ≡ Err c.in_err-enter.field-0.0 = search rules in
    own_refused c.args.user.now Known (IsFirstOf c.args.user.now c.args.folder.now) (state g.S.Store c.args.self.now) (state g.S.Store c.enter.new.self) c.in_err-enter.field-0.0 c.from_residual.result is c.in_err-enter.ensures

pub returns-clause-first : goal.returns-clause-first
returns-clause-first g c =
    let user = c.args.user.now in
    let folder = c.args.folder.now in
    own_reads user (IsNthOf user folder (pos 0)) (IsFirstIn folder) (state g.S.Store c.args.self.now) (state g.S.Store c.nth_numbered_of.new.self) c.nth_numbered_of.result
    (λ first own a s is. first_shows user folder first own a s (nth_first user folder first own is))
    (own_enters user Known (IsNthOf user folder (pos 0)) (state g.S.Store c.args.self.now) (state g.S.Store c.enter.new.self) (state g.S.Store c.nth_numbered_of.new.self) c.enter.result c.in_ok-enter.field-0 c.in_ok-enter.was c.enter.ensures
    c.nth_numbered_of.result c.nth_numbered_of.ensures.named c.nth_numbered_of.ensures.finds)

pub returns-clause-numbered : goal.returns-clause-numbered
returns-clause-numbered g c =
    let user = c.args.user.now in
    let folder = c.args.folder.now in
    own_told user (IsNthOf user folder (pos 0)) (IsFirstOf user folder) (state g.S.Store c.args.self.now) (state g.S.Store c.nth_numbered_of.new.self) c.nth_numbered_of.result (λ first own is. nth_first user folder first own is)
    (own_enters user Known (IsNthOf user folder (pos 0)) (state g.S.Store c.args.self.now) (state g.S.Store c.enter.new.self) (state g.S.Store c.nth_numbered_of.new.self) c.enter.result c.in_ok-enter.field-0 c.in_ok-enter.was c.enter.ensures
    c.nth_numbered_of.result c.nth_numbered_of.ensures.named c.nth_numbered_of.ensures.finds)
