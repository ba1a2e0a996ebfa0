use Rattle.std.proofs.Common.{◌≡◌, Err, rules}
use Rattle.sqlite.specs.Held.{state}
use Rattle.store_accounts.specs.Account.{Account}
use Rattle.store_accounts.specs.AccountRows.{profile_of}
use Rattle.store_accounts.specs.CopyRows.{IsFirstIn}
use Rattle.store_accounts.specs.declared.profile.Profile.{Profile}
use Rattle.store_accounts.proofs.OwnLemmas.{own_enters, own_refused}
use Rattle.store_accounts.specs.Shows.{IsFirstOf}
use Rattle.store_engine.proofs.LookupLemmas.{looks_enters}
use Rattle.store_engine.proofs.account.first_message.Goals as goal

abbrev Known : Profile → Account → Type 0
Known profile a = profile ≡ profile_of a

pub returns-clause-first : goal.returns-clause-first
returns-clause-first g c =
    looks_enters c.args.user.now Known (IsFirstIn c.args.folder.now) (state g.S.Store c.args.store.now)
    (state g.S.Store c.profile.new.store) (state g.S.Store c.first_message_of.new.self) c.profile.result c.in_ok-profile.field-0 c.in_ok-profile.was c.profile.ensures c.first_message_of.result c.first_message_of.ensures.first

pub returns-in_err-profile-clause-numbered : goal.returns-in_err-profile-clause-numbered
returns-in_err-profile-clause-numbered g c =
    let is : c.from_residual.result ≡ Err c.in_err-profile.field-0.0 = search rules in
    own_refused c.args.user.now Known (IsFirstOf c.args.user.now c.args.folder.now) (state g.S.Store c.args.store.now) (state g.S.Store c.profile.new.store) c.in_err-profile.field-0.0 c.from_residual.result is c.in_err-profile.ensures.reads

pub returns-clause-numbered : goal.returns-clause-numbered
returns-clause-numbered g c =
    own_enters c.args.user.now Known (IsFirstOf c.args.user.now c.args.folder.now) (state g.S.Store c.args.store.now) (state g.S.Store c.profile.new.store) (state g.S.Store c.first_message_of.new.self) c.profile.result c.in_ok-profile.field-0 c.in_ok-profile.was c.profile.ensures.reads
    c.first_message_of.result c.first_message_of.ensures.first.named c.first_message_of.ensures.numbered
