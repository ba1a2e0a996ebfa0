use Rattle.std.proofs.Common.{rules, Some, None}
use Rattle.store_engine.specs.declared.event.Event.TheVariants.{Step}
use Rattle.daemon_core.specs.StoreAccess.{AppliesEvent, access_state}
use Rattle.daemon_core.proofs.StepLemmas.{did, away}
use Rattle.daemon_core.proofs.step.apply_step.Goals as goal

pub returns-in-Some-clause-ok : goal.returns-in-Some-clause-ok
returns-in-Some-clause-ok g c =
    let carries : AppliesEvent g.O.Outside.told g.O.StoreAccess.store c.args.id (Step c.args.id) (access_state c.args.outside.now c.args.daemon.now.clients.sessions) (Some c.in-Some.answer) (access_state c.apply_event.new.self c.apply_event.new.clients.sessions) =
    search rules in
    did g.O.Outside.told g.O.StoreAccess.store g.met.O.StoreAccess.sure c.args.outside.now c.apply_event.new.self c.args.daemon.now c.settle_done.new.daemon c.apply_event.new.clients c.args.now c.args.id c.settle_done.new.out
    c.in-Some.answer carries c.requires.asks c.requires.may c.settle_done.ensures.renews c.settle_done.ensures.said

pub returns-clause-ok : goal.returns-clause-ok
returns-clause-ok g c =
    let carries : AppliesEvent g.O.Outside.told g.O.StoreAccess.store c.args.id (Step c.args.id) (access_state c.args.outside.now c.args.daemon.now.clients.sessions) None (access_state c.apply_event.new.self c.apply_event.new.clients.sessions) =
    search rules in
    away g.O.Outside.told g.O.StoreAccess.store g.met.O.StoreAccess.sure c.args.outside.now c.apply_event.new.self c.args.daemon.now c.await_store.new.daemon c.apply_event.new.clients c.args.now c.args.id c.args.out.now
    carries c.requires.asks c.requires.may (c.await_store.ensures c.requires.may.0 c.requires.may.1) c.requires.out
