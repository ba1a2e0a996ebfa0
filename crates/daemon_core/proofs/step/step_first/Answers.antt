use Rattle.std.proofs.Common.{◌≡◌, rules, true, false}
use Rattle.store_engine.specs.Hosts.{IsSessionEvent, EventAsksStore, KeepsClients}
use Rattle.store_engine.specs.declared.event.Event.TheVariants.{Step}
use Rattle.daemon_core.specs.ClientStates.{is_out}
use Rattle.daemon_core.proofs.EventLemmas.{step_keeps, keeps_same, err_any, ok_then}
use Rattle.daemon_core.proofs.StepLemmas.{freed, steps_free, behind, asks_after}
use Rattle.daemon_core.proofs.step.step_first.Goals as goal

pub returns-in-Ok-None-clause-ok : goal.returns-in-Ok-None-clause-ok
returns-in-Ok-None-clause-ok g c =
    let keeps : KeepsClients c.args.daemon.now.clients.sessions c.apply_free.new.clients.sessions = search rules in
    ok_then c.apply_step.result c.apply_step.ensures.ok (behind g.O.Outside.told g.O.StoreAccess.store g.met.O.StoreAccess.sure c.args.outside.now c.apply_step.new.outside c.args.daemon.now c.apply_step.new.daemon c.apply_free.new.clients
    c.args.now c.args.id c.apply_step.new.out keeps)

pub returns-then-not-is_out-clause-lacks : goal.returns-then-not-is_out-clause-lacks
returns-then-not-is_out-clause-lacks g c =
    let none : is_out c.in-Ok-Some.answer ≡ false = search rules in
    let made : IsSessionEvent (Step c.args.id) c.in-Ok-Some.answer c.args.daemon.now.clients.sessions c.apply_free.new.clients.sessions = search rules in
    let kept = step_keeps c.args.id c.in-Ok-Some.answer c.args.daemon.now.clients.sessions c.apply_free.new.clients.sessions none made in
    err_any c.lack.result (record {
      kept = keeps_same c.args.daemon.now.clients.sessions c.apply_free.new.clients c.lack.new.daemon.clients kept c.lack.ensures.forgets.clients;
      state = record { states = c.lack.ensures.forgets.state.states; holding = c.lack.ensures.forgets.state.holding };
    })

pub returns-in-Ok-Some-clause-ok : goal.returns-in-Ok-Some-clause-ok
returns-in-Ok-Some-clause-ok g c =
    let out : is_out c.in-Ok-Some.answer ≡ true = search rules in
    let made : IsSessionEvent (Step c.args.id) c.in-Ok-Some.answer c.args.daemon.now.clients.sessions c.apply_free.new.clients.sessions = search rules in
    freed g.O.Outside.told g.O.StoreAccess.store g.met.O.StoreAccess.sure c.args.outside.now c.tell_freed.new.self c.args.daemon.now c.settle.new.daemon c.apply_free.new.clients c.args.now c.args.id c.settle.new.out
    (Step c.args.id) c.in-Ok-Some.answer (steps_free c.args.daemon.now c.args.now c.args.id c.in-Ok-Some.answer out c.requires.may) c.requires.may.0 c.requires.may.1 made c.tell_freed.ensures.told c.tell_freed.ensures.shown
    c.settle.ensures.renews c.settle.ensures.said

pub apply_step-requires-clause-asks : goal.apply_step-requires-clause-asks
apply_step-requires-clause-asks g c =
    let keeps : KeepsClients c.args.daemon.now.clients.sessions c.apply_free.new.clients.sessions = search rules in
    let asks : EventAsksStore (Step c.args.id) c.args.daemon.now.clients.sessions = search rules in
    asks_after c.args.id c.args.daemon.now.clients.sessions c.apply_free.new.clients.sessions keeps asks
