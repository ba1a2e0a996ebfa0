use Rattle.std.proofs.Common.{[], ◌∷◌}
use Rattle.sqlite.specs.Held.{state}
use Rattle.store_tables.specs.declared.change.Change.TheVariants.{RemoveScript}
use Rattle.store_accounts.specs.Account.{with_user, deletes_script}
use Rattle.store_accounts.specs.Promises.{HasUser}
use Rattle.store_accounts.proofs.CallLemmas.{carries_deletion}
use Rattle.store_accounts.proofs.KeepLemmas.{writes}
use Rattle.store_accounts.proofs.store.Store.delete.Goals as goal

pub returns : goal.returns
returns g c =
    writes c.apply.result (state g.S.Store c.args.self.now) (state g.S.Store c.apply.new.self) (RemoveScript c.args.user c.args.name ∷ []) (HasUser c.args.user.now) (λ all. with_user all c.args.user.now (deletes_script c.args.name.now))
    (carries_deletion c.args.user c.args.name) c.apply.ensures.made c.apply.ensures.settled c.apply.ensures.same c.apply.ensures.crash c.apply.ensures.named
