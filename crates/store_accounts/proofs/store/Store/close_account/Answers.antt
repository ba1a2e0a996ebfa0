use Rattle.std.proofs.Common.{[], ◌∷◌}
use Rattle.sqlite.specs.Held.{state}
use Rattle.store_tables.specs.declared.change.Change.TheVariants.{SetRounds}
use Rattle.store_accounts.specs.Account.{with_user, closes}
use Rattle.store_accounts.specs.Promises.{HasUser}
use Rattle.store_accounts.proofs.UpkeepLemmas.{carries_rounds}
use Rattle.store_accounts.proofs.KeepLemmas.{writes}
use Rattle.store_accounts.proofs.store.Store.close_account.Goals as goal

pub returns : goal.returns
returns g c =
    writes c.apply.result (state g.S.Store c.args.self.now) (state g.S.Store c.apply.new.self) (SetRounds c.args.user 0 ∷ []) (HasUser c.args.user.now) (λ all. with_user all c.args.user.now closes)
    (carries_rounds c.args.user 0) c.apply.ensures.made c.apply.ensures.settled c.apply.ensures.same c.apply.ensures.crash c.apply.ensures.named
