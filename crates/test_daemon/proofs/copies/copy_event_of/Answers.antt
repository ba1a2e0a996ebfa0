use Rattle.std.proofs.Common.{◌≡◌, IfOk, subst}
use Rattle.store_engine.specs.declared.event.Event.{Event}
use Rattle.daemon_core.specs.StoreAccess.{delivery_of}
use Rattle.test_daemon.proofs.copies.copy_event_of.Goals as goal

pub returns : goal.returns
returns c = subst (λ t. IfOk c.copy_delivery.result (λ (event : Event). event ≡ delivery_of c.args.it.now.request t)) c.lend.ensures.lent c.copy_delivery.ensures
