use Rattle.std.proofs.Common.{◌≡◌, ◌+◌, [], ◌∷◌, ◌++◌, length, refl, sym, ◌∙◌, ap, subst, rules}
use Rattle.std.proofs.lemmas.List.{length_push}
use Rattle.sqlite.specs.Held.{state}
use Rattle.store_tables.proofs.WriteLemmas.{clean_before}
use Rattle.store_engine.specs.Hosts.{host_with, host_of, IsHostRun}
use Rattle.store_engine.proofs.RunLemmas.{run_none, run_goes, run_counted, crash_goes}
use Rattle.store_engine.proofs.replay.run_events.Goals as goal

pub loop-event-init : goal.loop-event-init
loop-event-init g c = record {
  answered = ap length c.new-answers.ensures.items;
  ran = subst (λ l. IsHostRun [] l (host_of g.S.Store c.args.world.now) (host_of g.S.Store c.args.world.now)) (sym c.new-answers.ensures.items) (run_none (host_of g.S.Store c.args.world.now));
  crash = search rules;
}

pub loop-event-preserved : goal.loop-event-preserved
loop-event-preserved g c =
    let answer = c.in-Ok.answer in
    let all : c.push_reserved.new.self.items ≡ c.loop-event.answers.items ++ answer ∷ [] = c.push_reserved.ensures.items ∙ ap (λ l. l ++ answer ∷ []) c.reserve.ensures.items in
    let was = clean_before (state g.S.Store c.loop-event.world.store) (state g.S.Store c.apply.new.store) _ c.apply.ensures.crash in
    let next = host_with g.S.Store c.apply.new.store c.apply.new.clients in
    record {
      answered = ap length all ∙ length_push c.loop-event.answers.items answer ∙ ap (λ n. n + 1) c.loop-event.invariant.answered;
      ran = run_goes (host_of g.S.Store c.args.world.now) (host_of g.S.Store c.loop-event.world) next c.args.events.now c.loop-event.event-index c.event-item.result
          c.loop-event-test.true c.event-item.is c.loop-event.answers.items c.push_reserved.new.self.items answer c.loop-event.invariant.ran all was c.in-Ok.ensures.event;
      crash = crash_goes (host_of g.S.Store c.args.world.now) (host_of g.S.Store c.loop-event.world) next c.args.events.now c.loop-event.event-index
          c.event-item.result c.loop-event-test.true c.event-item.is c.loop-event.answers.items c.loop-event.invariant.ran was c.apply.ensures.shut c.loop-event.invariant.crash c.apply.ensures.crash;
    }

pub returns-clause-runs : goal.returns-clause-runs
returns-clause-runs g c =
    run_counted (host_of g.S.Store c.args.world.now) (host_of g.S.Store c.loop-event.world) c.args.events.now c.loop-event.event-index c.loop-event.answers.items c.loop-event.answers.items
    c.loop-event.invariant.ran c.loop-event.invariant.answered refl

pub returns-then-is_err-clause-runs : goal.returns-then-is_err-clause-runs
returns-then-is_err-clause-runs g c =
    run_counted (host_of g.S.Store c.args.world.now) (host_of g.S.Store c.loop-event.world) c.args.events.now c.loop-event.event-index c.loop-event.answers.items c.reserve.new.self.items
    c.loop-event.invariant.ran c.loop-event.invariant.answered c.reserve.ensures.items

pub returns-in_default-clause-runs : goal.returns-in_default-clause-runs
returns-in_default-clause-runs g c =
    let same_store : c.apply.new.store ≡ c.loop-event.world.store = search rules in
    let same_clients : c.apply.new.clients ≡ c.loop-event.world.clients = search rules in
    let ran = run_counted (host_of g.S.Store c.args.world.now) (host_of g.S.Store c.loop-event.world) c.args.events.now c.loop-event.event-index c.loop-event.answers.items c.reserve.new.self.items
    c.loop-event.invariant.ran c.loop-event.invariant.answered c.reserve.ensures.items in
    rw (same_store, same_clients) ran
