use Rattle.std.proofs.Common.{[], ◌∷◌}
use Rattle.sqlite.specs.Held.{state}
use Rattle.store_tables.specs.declared.change.Change.TheVariants.{SetPassword}
use Rattle.store_accounts.specs.Account.{with_user, changes_password}
use Rattle.store_accounts.specs.Promises.{HasUser}
use Rattle.store_accounts.proofs.UpkeepLemmas.{carries_password}
use Rattle.store_accounts.proofs.KeepLemmas.{writes}
use Rattle.store_accounts.proofs.store.Store.set_password.Goals as goal

pub returns : goal.returns
returns g c =
    writes c.apply.result (state g.S.Store c.args.self.now) (state g.S.Store c.apply.new.self) (SetPassword c.args.user c.args.salt c.args.rounds c.args.digest ∷ []) (HasUser c.args.user.now) (λ all. with_user all c.args.user.now (changes_password (record { salt = c.args.salt.now; rounds = c.args.rounds; digest = c.args.digest.now })))
    (carries_password c.args.user c.args.salt c.args.rounds c.args.digest) c.apply.ensures.made c.apply.ensures.settled c.apply.ensures.same c.apply.ensures.crash c.apply.ensures.named
