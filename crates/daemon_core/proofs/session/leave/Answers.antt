use Rattle.std.proofs.Common.{subst}
use Rattle.store_engine.specs.declared.clients.Clients.{Clients}
use Rattle.store_engine.specs.declared.event.Event.TheVariants.{Close}
use Rattle.daemon_core.proofs.EventLemmas.{closed}
use Rattle.store_engine.specs.Hosts.{IsSessionEvent}
use Rattle.daemon_core.proofs.session.leave.Goals as goal

pub returns : goal.returns
returns c =
    let made = closed c.args.id c.apply_free.result c.forget.new.daemon.clients.sessions c.apply_free.new.clients.sessions c.apply_free.ensures.made c.apply_free.ensures.asks c.apply_free.ensures.lacks in
    record {
      event = (made.0, subst (λ (k : Clients). IsSessionEvent (Close c.args.id) made.0 k.sessions c.apply_free.new.clients.sessions) c.forget.ensures.clients made.1);
      state = record { states = c.forget.ensures.state.states; holding = c.forget.ensures.state.holding };
    }
