use Rattle.std.proofs.Common.{◌≡◌, ◌==◌, ap, refl, subst, rules, true, false, Some, option_map, is_some, length}
use Rattle.std.specs.Ordering.{nat_cmp}
use Rattle.std.specs.BTreeMap as tree
use Rattle.managesieve_sessions.specs.Counts.{SessionView}
use Rattle.daemon_core.specs.ClientStates.{is_out, begun}
use Rattle.daemon_core.proofs.EventLemmas.{give_keeps, keeps_same, err_any, some_there}
use Rattle.daemon_core.proofs.session.hear.Goals as goal

pub returns-then-not-is_out-clause-err : goal.returns-then-not-is_out-clause-err
returns-then-not-is_out-clause-err c =
    let none : is_out c.give.result ≡ false = search rules in
    let kept = give_keeps c.args.id c.args.piece.now c.give.result c.args.daemon.now.clients.sessions c.give.new.self.sessions none c.give.ensures in
    err_any c.lack-then-not-is_out.result (record {
      kept = keeps_same c.args.daemon.now.clients.sessions c.give.new.self c.lack-then-not-is_out.new.daemon.clients kept c.lack-then-not-is_out.ensures.forgets.clients;
      state = record { states = c.lack-then-not-is_out.ensures.forgets.state.states; holding = c.lack-then-not-is_out.ensures.forgets.state.holding };
    })

pub returns-clause-ok : goal.returns-clause-ok
returns-clause-ok c =
    let out : is_out c.give.result ≡ true = search rules in
    let there : true ≡ is_some (tree.get nat_cmp c.args.daemon.now.states c.args.id) = search rules in
    let state = some_there (tree.get nat_cmp c.args.daemon.now.states c.args.id) there in
    let session : tree.get nat_cmp c.args.daemon.now.clients.sessions c.args.id ≡ Some c.in-Some.session.now = search rules in
    let begins : c.unread_len-begins.result == 0 ≡ (length c.in-Some.session.now.client.unread == 0) = ap (λ n. n == 0) c.unread_len-begins.ensures in
    record {
      silent = refl;
      event = (c.give.result, out, c.give.ensures);
      before = state.0;
      was = state.1;
      client = c.in-Some.session.now.client;
      session = ap (λ o. option_map (λ (s : SessionView). s.client) o) session;
      state = record {
        states = (subst (λ b. tree.Updates nat_cmp c.args.daemon.now.states c.begin.new.states c.args.id (Some (begun c.args.now state.0 b c.args.fit))) begins (c.begin.ensures state.0 state.1)).0;
        holding = refl;
      };
    }
