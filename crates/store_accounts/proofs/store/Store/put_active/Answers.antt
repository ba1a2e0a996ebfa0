use Rattle.std.proofs.Common.{[], ◌∷◌, Some, refl}
use Rattle.sqlite.specs.Held.{state}
use Rattle.store_tables.specs.declared.change.Change.TheVariants.{AddScript, RemoveScript, SetActive}
use Rattle.store_accounts.specs.Account.{with_user, keeps_active}
use Rattle.store_accounts.specs.Promises.{HasUser}
use Rattle.store_accounts.proofs.UpkeepLemmas.{carries_active_script}
use Rattle.store_accounts.proofs.KeepLemmas.{writes}
use Rattle.store_accounts.proofs.store.Store.put_active.Goals as goal

pub returns : goal.returns
returns g c =
    writes c.apply.result (state g.S.Store c.args.self.now) (state g.S.Store c.apply.new.self) (RemoveScript c.args.user c.args.name ∷ AddScript c.args.user c.args.name c.args.text ∷ SetActive c.args.user (Some c.args.name) ∷ []) (HasUser c.args.user.now) (λ all. with_user all c.args.user.now (keeps_active c.args.name.now c.args.text.now))
    (carries_active_script c.args.user c.args.name c.args.text c.args.name refl) c.apply.ensures.made c.apply.ensures.settled c.apply.ensures.same c.apply.ensures.crash c.apply.ensures.named
