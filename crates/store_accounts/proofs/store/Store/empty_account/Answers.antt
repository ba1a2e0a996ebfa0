use Rattle.std.proofs.Common.{[], ◌∷◌}
use Rattle.sqlite.specs.Held.{state}
use Rattle.store_tables.specs.declared.change.Change.TheVariants.{SetPassword}
use Rattle.store_accounts.specs.Account.{with_user, empties_under}
use Rattle.store_accounts.specs.Promises.{HasUser}
use Rattle.store_accounts.proofs.UpkeepLemmas.{carries_removal, emptying}
use Rattle.store_accounts.proofs.KeepLemmas.{writes}
use Rattle.store_accounts.proofs.store.Store.empty_account.Goals as goal

pub returns : goal.returns
returns g c =
    writes c.apply.result (state g.S.Store c.args.self.now) (state g.S.Store c.apply.new.self) (emptying c.args.user (SetPassword c.args.user c.args.salt 0 c.args.digest ∷ [])) (HasUser c.args.user.now) (λ all. with_user all c.args.user.now (empties_under c.args.salt.now c.args.digest.now))
    (carries_removal c.args.user c.args.salt c.args.digest) c.apply.ensures.made c.apply.ensures.settled c.apply.ensures.same c.apply.ensures.crash c.apply.ensures.named
