-- What was found in the store that is had.
use Rattle.std.proofs.Common.{subst, sym}
use Rattle.maildir_moves.specs.Enduring.{MayLeave, none_tried, leaves_of}
use Rattle.sqlite.specs.Held.{state}
use Rattle.daemon_host.specs.Held.{ShowsBy, LeavesBy}
use Rattle.daemon_host.proofs.host_store.HostStoreMailStore.find_account.Goals as goal

pub returns-clause-seeks : goal.returns-clause-seeks
returns-clause-seeks g c = λ clean accounts shown.
    let it = c.find_account.ensures.finds clean accounts (subst (λ o. ShowsBy g.K.S.Store g.K.Keeper.tells (g.K.Keeper.holds c.args.self.now.held.keeper) o accounts) c.in-Some.is shown) in
    (it.0, it.1.shown, subst (λ o. MayLeave (λ trees. LeavesBy g.K.S.Store o trees) accounts (leaves_of (state g.K.S.Store c.find_account.new.store)) accounts none_tried) (sym c.in-Some.is) it.1.left)
