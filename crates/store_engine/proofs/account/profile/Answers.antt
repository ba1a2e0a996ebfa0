use Rattle.std.proofs.Common.{◌≡◌}
use Rattle.sqlite.specs.Held.{state}
use Rattle.store_accounts.specs.Account.{Account}
use Rattle.store_accounts.specs.AccountRows.{profile_of}
use Rattle.store_accounts.specs.declared.profile.Profile.{Profile}
use Rattle.store_engine.proofs.LookupLemmas.{looked}
use Rattle.store_engine.proofs.account.profile.Goals as goal

pub returns : goal.returns
returns g c = looked c.args.user.now (λ (profile : Profile) (a : Account). profile ≡ profile_of a) (state g.S.Store c.args.store.now) (state g.S.Store c.enter.new.self) c.enter.result c.enter.ensures
