-- The changes carry the whole account.
use Rattle.std.proofs.Common.{sym, subst}
use Rattle.std.specs.FinMap.{empty, insert}
use Rattle.sqlite.specs.Held.{state}
use Rattle.store_accounts.specs.Account.{with_user}
use Rattle.store_accounts.specs.Promises.{HasUser, IsFree}
use Rattle.store_accounts.specs.Whole.{whole, takes_whole}
use Rattle.store_accounts.specs.WholeRows.{account_made, emptied_by, IsMaking}
use Rattle.store_accounts.proofs.KeepLemmas.{writes}
use Rattle.store_accounts.proofs.WholeLemmas.{carries_whole}
use Rattle.store_accounts.proofs.store.Store.add_whole.Goals as goal

pub returns : goal.returns
returns g c =
    writes c.apply.result (state g.S.Store c.args.self.now) (state g.S.Store c.apply.new.self) c.deref.result.now (IsFree c.args.head.now.owner.name) (λ all. insert all c.args.head.now.owner.name (whole c.args.head.now c.args.parts.now empty))
    (carries_whole c.args.head.now c.args.parts.now c.deref.result.now c.requires (subst (IsMaking c.args.head.now.owner.name (account_made c.args.head.now) c.args.head.now c.args.parts.now) (sym c.deref.ensures.value) c.in_ok-changes.ensures.made))
    c.apply.ensures.made c.apply.ensures.settled c.apply.ensures.same c.apply.ensures.crash c.apply.ensures.named
