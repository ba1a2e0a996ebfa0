use Rattle.std.proofs.Common.{rules}
use Rattle.store_engine.specs.Hosts.{IsSessionEvent}
use Rattle.store_engine.specs.declared.event.Event.TheVariants.{GiveUp}
use Rattle.daemon_core.proofs.StepLemmas.{freed, gives_up}
use Rattle.daemon_core.proofs.step.give_up.Goals as goal

pub returns-in-Ok-Some-clause-ok : goal.returns-in-Ok-Some-clause-ok
returns-in-Ok-Some-clause-ok g c =
    let made : IsSessionEvent (GiveUp c.args.id) c.in-Ok-Some.answer c.args.daemon.now.clients.sessions c.apply_free.new.clients.sessions = search rules in
    freed g.O.Outside.told g.O.StoreAccess.store g.met.O.StoreAccess.sure c.args.outside.now c.tell_freed.new.self c.args.daemon.now c.settle.new.daemon c.apply_free.new.clients c.args.now c.args.id c.settle.new.out
    (GiveUp c.args.id) c.in-Ok-Some.answer (gives_up c.args.daemon.now c.args.now c.args.id c.in-Ok-Some.answer c.requires.may) c.requires.may.0 c.requires.may.1 made c.tell_freed.ensures.told c.tell_freed.ensures.shown
    c.settle.ensures.renews c.settle.ensures.said
