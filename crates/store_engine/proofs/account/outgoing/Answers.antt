use Rattle.std.proofs.Common.{◌≡◌}
use Rattle.sqlite.specs.Held.{state}
use Rattle.store_accounts.specs.Account.{Account, row_with}
use Rattle.store_accounts.specs.AccountRows.{profile_of}
use Rattle.store_accounts.specs.declared.profile.Profile.{Profile}
use Rattle.store_engine.proofs.LookupLemmas.{looks_enters}
use Rattle.store_engine.proofs.account.outgoing.Goals as goal

pub returns : goal.returns
returns g c =
    looks_enters c.args.user.now (λ (profile : Profile) (account : Account). profile ≡ profile_of account) (λ row account. row ≡ row_with c.args.id account.queue) (state g.S.Store c.args.store.now) (state g.S.Store c.profile.new.store)
    (state g.S.Store c.outgoing_of.new.self) c.profile.result c.in_ok-profile.field-0 c.in_ok-profile.was c.profile.ensures c.outgoing_of.result c.outgoing_of.ensures
