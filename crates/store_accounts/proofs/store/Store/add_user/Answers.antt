use Rattle.std.proofs.Common.{[], ◌∷◌}
use Rattle.sqlite.specs.Held.{state}
use Rattle.store_tables.specs.declared.change.Change.TheVariants.{AddAccount}
use Rattle.store_accounts.specs.Account.{new_user}
use Rattle.store_accounts.specs.Promises.{IsFree}
use Rattle.store_accounts.proofs.CallLemmas.{carries_account}
use Rattle.store_accounts.proofs.KeepLemmas.{writes}
use Rattle.store_accounts.proofs.store.Store.add_user.Goals as goal

pub returns-clause-writes : goal.returns-clause-writes
returns-clause-writes g c =
    writes c.apply.result (state g.S.Store c.args.self.now) (state g.S.Store c.apply.new.self) (AddAccount c.args.name c.args.address c.args.salt c.args.rounds c.args.digest ∷ []) (IsFree c.args.name.now) (new_user c.args.name.now c.args.address.now c.args.salt.now c.args.rounds c.args.digest.now)
    (carries_account c.args.name c.args.address c.args.salt c.args.rounds c.args.digest) c.apply.ensures.made c.apply.ensures.settled c.apply.ensures.same c.apply.ensures.crash c.apply.ensures.named
