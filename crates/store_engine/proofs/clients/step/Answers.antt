use Rattle.std.proofs.Common.{◌≡◌, rules, Some}
use Rattle.std.specs.Ordering.{nat_cmp}
use Rattle.std.specs.BTreeMap as tree
use Rattle.sqlite.specs.Held.{state}
use Rattle.store_engine.specs.declared.answer.Answer.TheVariants.{Ignored}
use Rattle.store_engine.specs.declared.event.Event.TheVariants.{Step}
use Rattle.store_engine.specs.Hosts.{answer_of}
use Rattle.store_engine.proofs.HostLemmas.{ignored_step, session_event, step_told, step_undone, step_crash}
use Rattle.store_engine.proofs.clients.step.Goals as goal

pub returns-in_default-clause-event : goal.returns-in_default-clause-event
returns-in_default-clause-event g c =
    session_event (Step c.args.number) Ignored (state g.S.Store c.args.store.now) c.args.sessions.now c.get_mut.follows.lender-at-none
    (ignored_step c.args.sessions.now c.get_mut.follows.lender-at-none c.args.number (search rules) (search rules))

pub returns-in_err-progress-clause-event : goal.returns-in_err-progress-clause-event
returns-in_err-progress-clause-event g c =
    let one : Some c.in-Some.session.now ≡ tree.get nat_cmp c.args.sessions.now c.args.number = search rules in
    let put : tree.Updates nat_cmp c.args.sessions.now (c.get_mut.follows.lender c.step.new.self) c.args.number (Some c.step.new.self) = search rules in
    step_undone (state g.S.Store c.args.store.now) (state g.S.Store c.step.new.store) c.args.sessions.now (c.get_mut.follows.lender c.step.new.self) c.args.number c.in-Some.session.now c.step.new.self c.step.result c.new-out.result c.step.new.out one put
    c.step.ensures.acts (answer_of c.from_residual.result) c.in_err-progress.field-0.0 c.in_err-progress.was (search rules) (search rules) (search rules)

pub returns-in_err-progress-clause-crash : goal.returns-in_err-progress-clause-crash
returns-in_err-progress-clause-crash g c =
    let one : Some c.in-Some.session.now ≡ tree.get nat_cmp c.args.sessions.now c.args.number = search rules in
    step_crash (state g.S.Store c.args.store.now) (state g.S.Store c.step.new.store) c.args.sessions.now c.args.number c.in-Some.session.now one c.step.ensures.acts.crash

pub returns-clause-event : goal.returns-clause-event
returns-clause-event g c =
    let one : Some c.in-Some.session.now ≡ tree.get nat_cmp c.args.sessions.now c.args.number = search rules in
    let put : tree.Updates nat_cmp c.args.sessions.now (c.get_mut.follows.lender c.step.new.self) c.args.number (Some c.step.new.self) = search rules in
    step_told (state g.S.Store c.args.store.now) (state g.S.Store c.step.new.store) c.args.sessions.now (c.get_mut.follows.lender c.step.new.self) c.args.number c.in-Some.session.now c.step.new.self c.step.result c.new-out.result c.step.new.out one put
    c.step.ensures.acts c.in_ok-progress.progress c.in_ok-progress.was (search rules)

pub returns-clause-crash : goal.returns-clause-crash
returns-clause-crash g c =
    let one : Some c.in-Some.session.now ≡ tree.get nat_cmp c.args.sessions.now c.args.number = search rules in
    step_crash (state g.S.Store c.args.store.now) (state g.S.Store c.step.new.store) c.args.sessions.now c.args.number c.in-Some.session.now one c.step.ensures.acts.crash
