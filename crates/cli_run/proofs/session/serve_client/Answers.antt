-- The greeting is written, and then the client is served; or the session breaks off at the greeting.
use Rattle.std.proofs.Common.{◌≡◌, None, Err, refl, sym, ap, subst, rules}
use Rattle.managesieve_protocol.specs.Replies.{reply_octets}
use Rattle.managesieve_sessions.specs.Clients.{new_client}
use Rattle.managesieve_sessions.specs.Counts.{SessionView}
use Rattle.managesieve_sessions.specs.Replies.{capability_reply}
use Rattle.cli_run.specs.Faults.{memory}
use Rattle.cli_run.specs.Serving.{IsTold, ServesTables, StopsServing, Unstopped, WasOut}
use Rattle.cli_run.proofs.StreamLemmas.{nothing_written}
use Rattle.cli_run.proofs.ServingLemmas.{broken_first, reads_out, served_first}
use Rattle.cli_run.proofs.session.serve_client.Goals as goal
use Rattle.cli_run.specs.Transitions.{from_to}

pub returns-in_err-session-clause-serves : goal.returns-in_err-session-clause-serves
returns-in_err-session-clause-serves g c tells idle =
    let input = g.R.Read.remaining c.args.input.now in
    let out = g.W.Write.contents c.args.output.now in
    let is : c.from_residual.result ≡ Err memory = search rules in
    subst (ServesTables (StopsServing g.K.Keeper.refuses g.K.Keeper.will_wait c.args.location (IsTold (g.E.Write.contents c.args.errors.now) (g.E.Write.contents c.args.errors.now))) (WasOut g.K.Keeper.gives g.K.Keeper.will_wait g.K.Keeper.closes c.args.location (IsTold (g.E.Write.contents c.args.errors.now) (g.E.Write.contents c.args.errors.now))) (from_to input input) (from_to out out) (from_to (g.K.Keeper.holds c.args.keeper.now) (g.K.Keeper.holds c.args.keeper.now))) (sym is)
    (record { talks = λ accounts shown. broken_first (StopsServing g.K.Keeper.refuses g.K.Keeper.will_wait c.args.location (IsTold (g.E.Write.contents c.args.errors.now) (g.E.Write.contents c.args.errors.now))) (WasOut g.K.Keeper.gives g.K.Keeper.will_wait g.K.Keeper.closes c.args.location (IsTold (g.E.Write.contents c.args.errors.now) (g.E.Write.contents c.args.errors.now))) accounts input out out (reply_octets (capability_reply None)) (g.K.Keeper.holds c.args.keeper.now) shown refl (0, nothing_written out); none = λ h. h })

pub returns-in_err-write_all-clause-serves : goal.returns-in_err-write_all-clause-serves
returns-in_err-write_all-clause-serves g c tells idle =
    let input = g.R.Read.remaining c.args.input.now in
    let out = g.W.Write.contents c.args.output.now in
    let out2 = g.W.Write.contents c.write_all.new.output in
    let is : c.from_residual-in_err-write_all.result ≡ Err c.in_err-write_all.field-0.0 = search rules in
    let greets : c.as_slice.result.now ≡ reply_octets (capability_reply None) = search rules in
    subst (ServesTables (StopsServing g.K.Keeper.refuses g.K.Keeper.will_wait c.args.location (IsTold (g.E.Write.contents c.args.errors.now) (g.E.Write.contents c.args.errors.now))) (WasOut g.K.Keeper.gives g.K.Keeper.will_wait g.K.Keeper.closes c.args.location (IsTold (g.E.Write.contents c.args.errors.now) (g.E.Write.contents c.args.errors.now))) (from_to input input) (from_to out out2) (from_to (g.K.Keeper.holds c.args.keeper.now) (g.K.Keeper.holds c.args.keeper.now))) (sym is)
    (record { talks = λ accounts shown. broken_first (StopsServing g.K.Keeper.refuses g.K.Keeper.will_wait c.args.location (IsTold (g.E.Write.contents c.args.errors.now) (g.E.Write.contents c.args.errors.now))) (WasOut g.K.Keeper.gives g.K.Keeper.will_wait g.K.Keeper.closes c.args.location (IsTold (g.E.Write.contents c.args.errors.now) (g.E.Write.contents c.args.errors.now))) accounts input out out2 c.as_slice.result.now (g.K.Keeper.holds c.args.keeper.now) shown greets c.in_err-write_all.ensures.1.0; none = λ h. h })

pub returns-clause-serves : goal.returns-clause-serves
returns-clause-serves g c tells idle =
    let input = g.R.Read.remaining c.args.input.now in
    let out = g.W.Write.contents c.args.output.now in
    let out2 = g.W.Write.contents c.write_all.new.output in
    let greets : c.as_slice.result.now ≡ reply_octets (capability_reply None) = search rules in
    let begins : c.in_ok-session.session.client ≡ new_client = ap (λ (s : SessionView). s.client) c.in_ok-session.ensures.begins in
    record {
      talks = λ accounts shown. c.converse.ensures.serves tells idle accounts input out
          (served_first Unstopped ⊥ accounts input out out2 c.in_ok-session.session.client c.as_slice.result.now (g.K.Keeper.holds c.args.keeper.now) shown begins greets c.in_ok-write_all.ensures.0);
      none = c.converse.ensures.none tells;
    }

pub returns-clause-reads : goal.returns-clause-reads
returns-clause-reads g c = reads_out c.converse.result _ _ _ c.converse.ensures.reads
