use Rattle.std.proofs.Common.{[], ◌∷◌}
use Rattle.sqlite.specs.Held.{state}
use Rattle.store_tables.specs.declared.change.Change.TheVariants.{SetActive}
use Rattle.store_tables.specs.Cells.{borrowed_octets}
use Rattle.store_accounts.specs.Account.{with_user, activates}
use Rattle.store_accounts.specs.Promises.{HasUser}
use Rattle.store_accounts.proofs.CallLemmas.{carries_active}
use Rattle.store_accounts.proofs.KeepLemmas.{writes}
use Rattle.store_accounts.proofs.store.Store.set_active.Goals as goal

pub returns : goal.returns
returns g c =
    writes c.apply.result (state g.S.Store c.args.self.now) (state g.S.Store c.apply.new.self) (SetActive c.args.user c.args.name ∷ []) (HasUser c.args.user.now) (λ all. with_user all c.args.user.now (activates (borrowed_octets c.args.name)))
    (carries_active c.args.user c.args.name) c.apply.ensures.made c.apply.ensures.settled c.apply.ensures.same c.apply.ensures.crash c.apply.ensures.named
