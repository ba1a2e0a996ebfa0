-- What `apply` makes of the store that is had.
use Rattle.std.proofs.Common.{subst, sym}
use Rattle.daemon_host.specs.Held.{host_view, ShowsBy, LeavesBy}
use Rattle.daemon_host.proofs.HeldLemmas.{done_alone}
use Rattle.daemon_host.proofs.host_store.HostStoreMailStore.apply_event.Goals as goal

pub returns-in-Ok : goal.returns-in-Ok
returns-in-Ok g c = λ clean.
    done_alone g.K.S.Store (host_view g.K.S.Store g.K.Keeper.tells g.K.Keeper.holds) c.args.self.now _ c.args.event.now c.in-Ok.answer c.in-Some.store c.apply.new.store c.args.clients.now.sessions c.apply.new.clients.sessions
    (λ accounts shown. subst (λ o. ShowsBy g.K.S.Store g.K.Keeper.tells (g.K.Keeper.holds c.args.self.now.held.keeper) o accounts) c.in-Some.is shown)
    (λ accounts shown. shown)
    (λ trees left. subst (λ o. LeavesBy g.K.S.Store o trees) (sym c.in-Some.is) left)
    (λ trees left. left)
    clean
    (c.apply.ensures.shut clean)
    c.apply.ensures.crash
    c.in-Ok.ensures.event
