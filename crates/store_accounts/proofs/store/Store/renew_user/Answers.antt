use Rattle.std.proofs.Common.{[], ◌∷◌}
use Rattle.sqlite.specs.Held.{state}
use Rattle.store_tables.specs.declared.change.Change.TheVariants.{SetAddress, SetPassword}
use Rattle.store_accounts.specs.Account.{with_user, renews}
use Rattle.store_accounts.specs.Promises.{HasUser}
use Rattle.store_accounts.proofs.UpkeepLemmas.{carries_renewal, emptying}
use Rattle.store_accounts.proofs.KeepLemmas.{writes}
use Rattle.store_accounts.proofs.store.Store.renew_user.Goals as goal

pub returns : goal.returns
returns g c =
    writes c.apply.result (state g.S.Store c.args.self.now) (state g.S.Store c.apply.new.self) (emptying c.args.name (SetAddress c.args.name c.args.address ∷ SetPassword c.args.name c.args.salt c.args.rounds c.args.digest ∷ [])) (HasUser c.args.name.now) (λ all. with_user all c.args.name.now (renews c.args.address.now (record { salt = c.args.salt.now; rounds = c.args.rounds; digest = c.args.digest.now })))
    (carries_renewal c.args.name c.args.address c.args.salt c.args.rounds c.args.digest) c.apply.ensures.made c.apply.ensures.settled c.apply.ensures.same c.apply.ensures.crash c.apply.ensures.named
