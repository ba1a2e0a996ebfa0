use Rattle.std.proofs.Common.{◌≡◌, ◌∙◌, sym, refl, rules, true, false, Some, None}
use Rattle.std.specs.Ordering.{nat_cmp}
use Rattle.std.specs.BTreeMap as tree
use Rattle.store_engine.specs.Hosts.{IsSessionEvent}
use Rattle.store_engine.specs.declared.event.Event.TheVariants.{Open}
use Rattle.daemon_core.specs.ClientStates.{is_out, new_client_state}
use Rattle.daemon_core.specs.declared.daemon.Daemon.{Daemon}
use Rattle.daemon_core.proofs.EventLemmas.{open_keeps, keeps_same, err_any, known_twice, greeted, went_well}
use Rattle.daemon_core.proofs.session.enter.Goals as goal

pub returns-then-not-is_out-clause-err : goal.returns-then-not-is_out-clause-err
returns-then-not-is_out-clause-err c =
    let none : is_out c.in-Ok-Some.answer ≡ false = search rules in
    let made : IsSessionEvent (Open c.args.id) c.in-Ok-Some.answer c.args.daemon.now.clients.sessions c.apply_free.new.clients.sessions = search rules in
    let kept = open_keeps c.args.id c.in-Ok-Some.answer c.args.daemon.now.clients.sessions c.apply_free.new.clients.sessions none made in
    let put : tree.Updates nat_cmp c.args.daemon.now.states c.insert.new.self c.args.id (Some (new_client_state c.args.now)) = went_well c.insert.result (sym c.is_err.ensures.value ∙ c.if-is_err.false) c.insert.ensures.updates in
    let mid : Daemon = record c.args.daemon.now { clients = c.apply_free.new.clients; states = c.insert.new.self } in
    err_any c.lack-then-not-is_out.result (record {
      kept = keeps_same c.args.daemon.now.clients.sessions c.apply_free.new.clients c.lack-then-not-is_out.new.daemon.clients kept c.lack-then-not-is_out.ensures.forgets.clients;
      state = record {
        states = known_twice c.args.daemon.now mid c.lack-then-not-is_out.new.daemon c.args.id (Some (new_client_state c.args.now)) None put.0 c.lack-then-not-is_out.ensures.forgets.state.states;
        holding = c.lack-then-not-is_out.ensures.forgets.state.holding;
      };
    })

pub returns-in-Ok-Some-clause-ok : goal.returns-in-Ok-Some-clause-ok
returns-in-Ok-Some-clause-ok c =
    let out : is_out c.in-Ok-Some.answer ≡ true = search rules in
    let made : IsSessionEvent (Open c.args.id) c.in-Ok-Some.answer c.args.daemon.now.clients.sessions c.apply_free.new.clients.sessions = search rules in
    let put : tree.Updates nat_cmp c.args.daemon.now.states c.insert.new.self c.args.id (Some (new_client_state c.args.now)) = went_well c.insert.result (sym c.is_err.ensures.value ∙ c.if-is_err.false) c.insert.ensures.updates in
    record {
      says = c.octets_of.ensures ∙ greeted c.args.id c.in-Ok-Some.answer c.args.daemon.now.clients.sessions c.apply_free.new.clients.sessions out made;
      event = (c.in-Ok-Some.answer, out, made);
      state = record { states = put.0; holding = refl };
    }
