use Rattle.std.proofs.Common.{[], ◌∷◌}
use Rattle.sqlite.specs.Held.{state}
use Rattle.store_tables.specs.declared.change.Change.TheVariants.{SetAddress}
use Rattle.store_accounts.specs.Account.{with_user, changes_address}
use Rattle.store_accounts.specs.Promises.{HasUser}
use Rattle.store_accounts.proofs.UpkeepLemmas.{carries_address}
use Rattle.store_accounts.proofs.KeepLemmas.{writes}
use Rattle.store_accounts.proofs.store.Store.set_address.Goals as goal

pub returns : goal.returns
returns g c =
    writes c.apply.result (state g.S.Store c.args.self.now) (state g.S.Store c.apply.new.self) (SetAddress c.args.user c.args.address ∷ []) (HasUser c.args.user.now) (λ all. with_user all c.args.user.now (changes_address c.args.address.now))
    (carries_address c.args.user c.args.address) c.apply.ensures.made c.apply.ensures.settled c.apply.ensures.same c.apply.ensures.crash c.apply.ensures.named
