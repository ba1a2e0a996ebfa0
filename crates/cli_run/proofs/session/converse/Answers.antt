-- A piece comes, and all that is whole is answered; or the session ends there, or breaks off.
use Rattle.std.proofs.Common.{◌≡◌, ◌≤◌, ℕ, [], Option, Ok, Err, ◌+◌, IfSome, refl, unwrap_or, length, take, drop, sym, ap, subst, inl, inr, true, false, rules, arith}
use Rattle.std.proofs.lemmas.List.{length-take}
use Rattle.std.specs.Io.KnownBytes.{Consumes}
use Rattle.managesieve_sessions.specs.Clients.{client_given}
use Rattle.cli_run.specs.Faults.{memory}
use Rattle.cli_run.specs.Serving.{Converses, HasNoted, IsTold, StopsServing, Unstopped, WasOut}
use Rattle.cli_run.specs.Streams.{ReadGoesOn, reads_end}
use Rattle.cli_run.specs.Streams.InTurn.{none_yet}
use Rattle.cli_run.proofs.StreamLemmas.{one_turn, turns_as}
use Rattle.cli_run.proofs.ServingLemmas.{broken_on, broken_served, closed_as, interrupted_as, never_stops, served_as, served_at_end, served_on, stops_as, told_now, told_on, told_one, told_still, writes_as}
use Rattle.cli_run.proofs.session.converse.Goals as goal
use Rattle.cli_run.specs.Transitions.{from_to}

pub returns-in_err-len-clause-serves : goal.returns-in_err-len-clause-serves
returns-in_err-len-clause-serves g c tells idle accounts first_in first_out first =
    let is : c.from_residual.result ≡ Err c.in_err-len.field-0.0 = search rules in
    subst (Converses (StopsServing g.K.Keeper.refuses g.K.Keeper.will_wait c.args.location (IsTold (g.E.Write.contents c.args.errors.now) (g.E.Write.contents c.loop.errors))) (WasOut g.K.Keeper.gives g.K.Keeper.will_wait g.K.Keeper.closes c.args.location (IsTold (g.E.Write.contents c.args.errors.now) (g.E.Write.contents c.loop.errors))) accounts (from_to first_in (g.R.Read.remaining c.read_at.new.input)) (from_to first_out (g.W.Write.contents c.loop.output)) (g.K.Keeper.holds c.loop.keeper)) (sym is)
    (broken_served (StopsServing g.K.Keeper.refuses g.K.Keeper.will_wait c.args.location (IsTold (g.E.Write.contents c.args.errors.now) (g.E.Write.contents c.loop.errors))) (WasOut g.K.Keeper.gives g.K.Keeper.will_wait g.K.Keeper.closes c.args.location (IsTold (g.E.Write.contents c.args.errors.now) (g.E.Write.contents c.loop.errors))) accounts first_in (g.R.Read.remaining c.loop.input) first_out (g.W.Write.contents c.loop.output) c.loop.session.client (g.K.Keeper.holds c.loop.keeper) (c.loop.invariant.served tells idle accounts first_in first_out first))

pub returns-in_default-clause-serves : goal.returns-in_default-clause-serves
returns-in_default-clause-serves g c tells idle accounts first_in first_out first =
    let none : unwrap_or c.in_ok-len.field-0 0 ≡ 0 = ap (λ o. unwrap_or o 0) c.in_default.is in
    let nothing : Consumes (g.R.Read.remaining c.loop.input) (g.R.Read.remaining c.read_at.new.input) [] = subst (λ n. Consumes (g.R.Read.remaining c.loop.input) (g.R.Read.remaining c.read_at.new.input) (take n (drop 0 c.read_at.new.room))) none c.in_ok-len.ensures.read in
    record {
      client = c.loop.session.client;
      served = served_at_end (StopsServing g.K.Keeper.refuses g.K.Keeper.will_wait c.args.location (IsTold (g.E.Write.contents c.args.errors.now) (g.E.Write.contents c.loop.errors))) (WasOut g.K.Keeper.gives g.K.Keeper.will_wait g.K.Keeper.closes c.args.location (IsTold (g.E.Write.contents c.args.errors.now) (g.E.Write.contents c.loop.errors))) accounts first_in (g.R.Read.remaining c.loop.input) (g.R.Read.remaining c.read_at.new.input) first_out (g.W.Write.contents c.loop.output) c.loop.session.client (g.K.Keeper.holds c.loop.keeper)
          (c.loop.invariant.served tells idle accounts first_in first_out first) nothing;
      over = inr (c.in_ok-len.ensures.end (ap (λ (o : Option ℕ). Ok o) c.in_default.is));
    }

pub returns-in_err-give-clause-serves : goal.returns-in_err-give-clause-serves
returns-in_err-give-clause-serves g c tells idle accounts first_in first_out first =
    let is : c.from_residual-in_err-give.result ≡ Err memory = search rules in
    subst (Converses (StopsServing g.K.Keeper.refuses g.K.Keeper.will_wait c.args.location (IsTold (g.E.Write.contents c.args.errors.now) (g.E.Write.contents c.loop.errors))) (WasOut g.K.Keeper.gives g.K.Keeper.will_wait g.K.Keeper.closes c.args.location (IsTold (g.E.Write.contents c.args.errors.now) (g.E.Write.contents c.loop.errors))) accounts (from_to first_in (g.R.Read.remaining c.read_at.new.input)) (from_to first_out (g.W.Write.contents c.loop.output)) (g.K.Keeper.holds c.loop.keeper)) (sym is)
    (broken_served (StopsServing g.K.Keeper.refuses g.K.Keeper.will_wait c.args.location (IsTold (g.E.Write.contents c.args.errors.now) (g.E.Write.contents c.loop.errors))) (WasOut g.K.Keeper.gives g.K.Keeper.will_wait g.K.Keeper.closes c.args.location (IsTold (g.E.Write.contents c.args.errors.now) (g.E.Write.contents c.loop.errors))) accounts first_in (g.R.Read.remaining c.loop.input) first_out (g.W.Write.contents c.loop.output) c.loop.session.client (g.K.Keeper.holds c.loop.keeper) (c.loop.invariant.served tells idle accounts first_in first_out first))

pub returns-in_err-answered-clause-serves : goal.returns-in_err-answered-clause-serves
returns-in_err-answered-clause-serves g c tells idle accounts first_in first_out first =
    let had = WasOut g.K.Keeper.gives g.K.Keeper.will_wait g.K.Keeper.closes c.args.location (IsTold (g.E.Write.contents c.args.errors.now) (g.E.Write.contents c.loop.errors)) in
    let out = WasOut g.K.Keeper.gives g.K.Keeper.will_wait g.K.Keeper.closes c.args.location (HasNoted c.answer_all-answered.new.first_fault) in
    let given = WasOut g.K.Keeper.gives g.K.Keeper.will_wait g.K.Keeper.closes c.args.location (IsTold (g.E.Write.contents c.args.errors.now) (g.E.Write.contents c.tell.new.errors)) in
    let before = StopsServing g.K.Keeper.refuses g.K.Keeper.will_wait c.args.location (IsTold (g.E.Write.contents c.args.errors.now) (g.E.Write.contents c.loop.errors)) in
    let stop = StopsServing g.K.Keeper.refuses g.K.Keeper.will_wait c.args.location (IsTold (g.E.Write.contents c.args.errors.now) (g.E.Write.contents c.tell.new.errors)) in
    let noted = StopsServing g.K.Keeper.refuses g.K.Keeper.will_wait c.args.location (HasNoted c.answer_all-answered.new.first_fault) in
    let still = stops_as g.K.Keeper.refuses g.K.Keeper.will_wait c.args.location _ _ (told_still (g.E.Write.contents c.args.errors.now) (g.E.Write.contents c.loop.errors) (g.E.Write.contents c.tell.new.errors) c.loop.first_fault c.answer_all-answered.new.first_fault c.tell.new.self c.in_err-answered.ensures.kept c.tell.ensures.once c.tell.ensures.none c.tell.ensures.tells c.tell.ensures.same c.tell.ensures.told c.tell.ensures.untold c.loop.invariant.told) in
    let still_out = closed_as g.K.Keeper.gives g.K.Keeper.will_wait g.K.Keeper.closes c.args.location _ _ (told_still (g.E.Write.contents c.args.errors.now) (g.E.Write.contents c.loop.errors) (g.E.Write.contents c.tell.new.errors) c.loop.first_fault c.answer_all-answered.new.first_fault c.tell.new.self c.in_err-answered.ensures.kept c.tell.ensures.once c.tell.ensures.none c.tell.ensures.tells c.tell.ensures.same c.tell.ensures.told c.tell.ensures.untold c.loop.invariant.told) in
    let now_told = stops_as g.K.Keeper.refuses g.K.Keeper.will_wait c.args.location _ _ (told_now (g.E.Write.contents c.args.errors.now) (g.E.Write.contents c.loop.errors) (g.E.Write.contents c.tell.new.errors) c.loop.first_fault c.answer_all-answered.new.first_fault c.tell.new.self c.in_err-answered.ensures.kept c.tell.ensures.once c.tell.ensures.none c.tell.ensures.tells c.tell.ensures.same c.tell.ensures.told c.tell.ensures.untold c.loop.invariant.told) in
    let now_out = closed_as g.K.Keeper.gives g.K.Keeper.will_wait g.K.Keeper.closes c.args.location _ _ (told_now (g.E.Write.contents c.args.errors.now) (g.E.Write.contents c.loop.errors) (g.E.Write.contents c.tell.new.errors) c.loop.first_fault c.answer_all-answered.new.first_fault c.tell.new.self c.in_err-answered.ensures.kept c.tell.ensures.once c.tell.ensures.none c.tell.ensures.tells c.tell.ensures.same c.tell.ensures.told c.tell.ensures.untold c.loop.invariant.told) in
    let len = c.in-Some.len in
    let room = c.read_at.new.room in
    let came : unwrap_or c.in_ok-len.field-0 0 ≡ len = ap (λ o. unwrap_or o 0) c.in-Some.is in
    let took : Consumes (g.R.Read.remaining c.loop.input) (g.R.Read.remaining c.read_at.new.input) (take len room) = subst (λ n. Consumes (g.R.Read.remaining c.loop.input) (g.R.Read.remaining c.read_at.new.input) (take n (drop 0 room))) came c.in_ok-len.ensures.read in
    let whole : length room ≡ 4096 = search rules in
    let short : length (take len room) ≤ 4096 = omega (arith, whole, length-take len room) in
    let joins : c.give.new.self.client ≡ client_given (take len room) c.loop.session.client = search rules in
    let is : c.from_residual-in_err-answered.result ≡ Err c.in_err-answered.field-0.0 = search rules in
    subst (Converses stop given accounts (from_to first_in (g.R.Read.remaining c.read_at.new.input)) (from_to first_out (g.W.Write.contents c.answer_all-answered.new.output)) (g.K.Keeper.holds c.answer_all-answered.new.keeper)) (sym is)
    (broken_on stop given accounts first_in (g.R.Read.remaining c.loop.input) (g.R.Read.remaining c.read_at.new.input) first_out (g.W.Write.contents c.loop.output) (g.W.Write.contents c.answer_all-answered.new.output) (take len room)
    c.loop.session.client c.give.new.self.client c.answer_all-answered.new.session.client (g.K.Keeper.holds c.loop.keeper) (g.K.Keeper.holds c.answer_all-answered.new.keeper) (served_as before stop had given still still_out accounts first_in (g.R.Read.remaining c.loop.input) first_out (g.W.Write.contents c.loop.output) c.loop.session.client (g.K.Keeper.holds c.loop.keeper) (c.loop.invariant.served tells idle accounts first_in first_out first)) took c.loop.invariant.live short joins
    (λ a there. interrupted_as noted stop out given now_told now_out a c.give.new.self.client (g.W.Write.contents c.loop.output) (g.W.Write.contents c.answer_all-answered.new.output) (g.K.Keeper.holds c.answer_all-answered.new.keeper) (c.in_err-answered.ensures.answers tells (c.loop.invariant.back idle) a there)))

pub returns-then-is_over-clause-serves : goal.returns-then-is_over-clause-serves
returns-then-is_over-clause-serves g c tells idle accounts first_in first_out first =
    let had = WasOut g.K.Keeper.gives g.K.Keeper.will_wait g.K.Keeper.closes c.args.location (IsTold (g.E.Write.contents c.args.errors.now) (g.E.Write.contents c.loop.errors)) in
    let out = WasOut g.K.Keeper.gives g.K.Keeper.will_wait g.K.Keeper.closes c.args.location (HasNoted c.answer_all-answered.new.first_fault) in
    let given = WasOut g.K.Keeper.gives g.K.Keeper.will_wait g.K.Keeper.closes c.args.location (IsTold (g.E.Write.contents c.args.errors.now) (g.E.Write.contents c.tell.new.errors)) in
    let before = StopsServing g.K.Keeper.refuses g.K.Keeper.will_wait c.args.location (IsTold (g.E.Write.contents c.args.errors.now) (g.E.Write.contents c.loop.errors)) in
    let stop = StopsServing g.K.Keeper.refuses g.K.Keeper.will_wait c.args.location (IsTold (g.E.Write.contents c.args.errors.now) (g.E.Write.contents c.tell.new.errors)) in
    let noted = StopsServing g.K.Keeper.refuses g.K.Keeper.will_wait c.args.location (HasNoted c.answer_all-answered.new.first_fault) in
    let still = stops_as g.K.Keeper.refuses g.K.Keeper.will_wait c.args.location _ _ (told_still (g.E.Write.contents c.args.errors.now) (g.E.Write.contents c.loop.errors) (g.E.Write.contents c.tell.new.errors) c.loop.first_fault c.answer_all-answered.new.first_fault c.tell.new.self c.in_ok-answered.ensures.kept c.tell.ensures.once c.tell.ensures.none c.tell.ensures.tells c.tell.ensures.same c.tell.ensures.told c.tell.ensures.untold c.loop.invariant.told) in
    let still_out = closed_as g.K.Keeper.gives g.K.Keeper.will_wait g.K.Keeper.closes c.args.location _ _ (told_still (g.E.Write.contents c.args.errors.now) (g.E.Write.contents c.loop.errors) (g.E.Write.contents c.tell.new.errors) c.loop.first_fault c.answer_all-answered.new.first_fault c.tell.new.self c.in_ok-answered.ensures.kept c.tell.ensures.once c.tell.ensures.none c.tell.ensures.tells c.tell.ensures.same c.tell.ensures.told c.tell.ensures.untold c.loop.invariant.told) in
    let now_told = stops_as g.K.Keeper.refuses g.K.Keeper.will_wait c.args.location _ _ (told_now (g.E.Write.contents c.args.errors.now) (g.E.Write.contents c.loop.errors) (g.E.Write.contents c.tell.new.errors) c.loop.first_fault c.answer_all-answered.new.first_fault c.tell.new.self c.in_ok-answered.ensures.kept c.tell.ensures.once c.tell.ensures.none c.tell.ensures.tells c.tell.ensures.same c.tell.ensures.told c.tell.ensures.untold c.loop.invariant.told) in
    let now_out = closed_as g.K.Keeper.gives g.K.Keeper.will_wait g.K.Keeper.closes c.args.location _ _ (told_now (g.E.Write.contents c.args.errors.now) (g.E.Write.contents c.loop.errors) (g.E.Write.contents c.tell.new.errors) c.loop.first_fault c.answer_all-answered.new.first_fault c.tell.new.self c.in_ok-answered.ensures.kept c.tell.ensures.once c.tell.ensures.none c.tell.ensures.tells c.tell.ensures.same c.tell.ensures.told c.tell.ensures.untold c.loop.invariant.told) in
    let len = c.in-Some.len in
    let room = c.read_at.new.room in
    let came : unwrap_or c.in_ok-len.field-0 0 ≡ len = ap (λ o. unwrap_or o 0) c.in-Some.is in
    let took : Consumes (g.R.Read.remaining c.loop.input) (g.R.Read.remaining c.read_at.new.input) (take len room) = subst (λ n. Consumes (g.R.Read.remaining c.loop.input) (g.R.Read.remaining c.read_at.new.input) (take n (drop 0 room))) came c.in_ok-len.ensures.read in
    let whole : length room ≡ 4096 = search rules in
    let short : length (take len room) ≤ 4096 = omega (arith, whole, length-take len room) in
    let joins : c.give.new.self.client ≡ client_given (take len room) c.loop.session.client = search rules in
    let shut : c.answer_all-answered.new.session.client.closed ≡ true = search rules in
    record {
      client = c.answer_all-answered.new.session.client;
      served = served_on stop given accounts first_in (g.R.Read.remaining c.loop.input) (g.R.Read.remaining c.read_at.new.input) first_out (g.W.Write.contents c.loop.output) (g.W.Write.contents c.answer_all-answered.new.output) (take len room)
          c.loop.session.client c.give.new.self.client c.answer_all-answered.new.session.client (g.K.Keeper.holds c.loop.keeper) (g.K.Keeper.holds c.answer_all-answered.new.keeper) (served_as before stop had given still still_out accounts first_in (g.R.Read.remaining c.loop.input) first_out (g.W.Write.contents c.loop.output) c.loop.session.client (g.K.Keeper.holds c.loop.keeper) (c.loop.invariant.served tells idle accounts first_in first_out first)) took c.loop.invariant.live short joins
          (λ a there. let all = c.in_ok-answered.ensures.answers tells (c.loop.invariant.back idle) a there in (writes_as noted stop out given now_told now_out a c.give.new.self.client (g.W.Write.contents c.loop.output) (g.W.Write.contents c.answer_all-answered.new.output) c.answer_all-answered.new.session.client (g.K.Keeper.holds c.answer_all-answered.new.keeper) all.0, all.1));
      over = inl shut;
    }

pub loop-preserved : goal.loop-preserved
loop-preserved g c =
    let had = WasOut g.K.Keeper.gives g.K.Keeper.will_wait g.K.Keeper.closes c.args.location (IsTold (g.E.Write.contents c.args.errors.now) (g.E.Write.contents c.loop.errors)) in
    let out = WasOut g.K.Keeper.gives g.K.Keeper.will_wait g.K.Keeper.closes c.args.location (HasNoted c.answer_all-answered.new.first_fault) in
    let given = WasOut g.K.Keeper.gives g.K.Keeper.will_wait g.K.Keeper.closes c.args.location (IsTold (g.E.Write.contents c.args.errors.now) (g.E.Write.contents c.tell.new.errors)) in
    let before = StopsServing g.K.Keeper.refuses g.K.Keeper.will_wait c.args.location (IsTold (g.E.Write.contents c.args.errors.now) (g.E.Write.contents c.loop.errors)) in
    let stop = StopsServing g.K.Keeper.refuses g.K.Keeper.will_wait c.args.location (IsTold (g.E.Write.contents c.args.errors.now) (g.E.Write.contents c.tell.new.errors)) in
    let noted = StopsServing g.K.Keeper.refuses g.K.Keeper.will_wait c.args.location (HasNoted c.answer_all-answered.new.first_fault) in
    let still = stops_as g.K.Keeper.refuses g.K.Keeper.will_wait c.args.location _ _ (told_still (g.E.Write.contents c.args.errors.now) (g.E.Write.contents c.loop.errors) (g.E.Write.contents c.tell.new.errors) c.loop.first_fault c.answer_all-answered.new.first_fault c.tell.new.self c.in_ok-answered.ensures.kept c.tell.ensures.once c.tell.ensures.none c.tell.ensures.tells c.tell.ensures.same c.tell.ensures.told c.tell.ensures.untold c.loop.invariant.told) in
    let still_out = closed_as g.K.Keeper.gives g.K.Keeper.will_wait g.K.Keeper.closes c.args.location _ _ (told_still (g.E.Write.contents c.args.errors.now) (g.E.Write.contents c.loop.errors) (g.E.Write.contents c.tell.new.errors) c.loop.first_fault c.answer_all-answered.new.first_fault c.tell.new.self c.in_ok-answered.ensures.kept c.tell.ensures.once c.tell.ensures.none c.tell.ensures.tells c.tell.ensures.same c.tell.ensures.told c.tell.ensures.untold c.loop.invariant.told) in
    let now_told = stops_as g.K.Keeper.refuses g.K.Keeper.will_wait c.args.location _ _ (told_now (g.E.Write.contents c.args.errors.now) (g.E.Write.contents c.loop.errors) (g.E.Write.contents c.tell.new.errors) c.loop.first_fault c.answer_all-answered.new.first_fault c.tell.new.self c.in_ok-answered.ensures.kept c.tell.ensures.once c.tell.ensures.none c.tell.ensures.tells c.tell.ensures.same c.tell.ensures.told c.tell.ensures.untold c.loop.invariant.told) in
    let now_out = closed_as g.K.Keeper.gives g.K.Keeper.will_wait g.K.Keeper.closes c.args.location _ _ (told_now (g.E.Write.contents c.args.errors.now) (g.E.Write.contents c.loop.errors) (g.E.Write.contents c.tell.new.errors) c.loop.first_fault c.answer_all-answered.new.first_fault c.tell.new.self c.in_ok-answered.ensures.kept c.tell.ensures.once c.tell.ensures.none c.tell.ensures.tells c.tell.ensures.same c.tell.ensures.told c.tell.ensures.untold c.loop.invariant.told) in
    let len = c.in-Some.len in
    let room = c.read_at.new.room in
    let came : unwrap_or c.in_ok-len.field-0 0 ≡ len = ap (λ o. unwrap_or o 0) c.in-Some.is in
    let took : Consumes (g.R.Read.remaining c.loop.input) (g.R.Read.remaining c.read_at.new.input) (take len room) = subst (λ n. Consumes (g.R.Read.remaining c.loop.input) (g.R.Read.remaining c.read_at.new.input) (take n (drop 0 room))) came c.in_ok-len.ensures.read in
    let whole : length room ≡ 4096 = search rules in
    let short : length (take len room) ≤ 4096 = omega (arith, whole, length-take len room) in
    let joins : c.give.new.self.client ≡ client_given (take len room) c.loop.session.client = search rules in
    let was = c.loop.invariant in
    let now = c.in_ok-answered.ensures in
    let live : c.answer_all-answered.new.session.client.closed ≡ false = search rules in
    let goes : ReadGoesOn g.R.Read.remaining c.loop.input c.read_at.new.input = subst (λ o. IfSome o (λ count. ReadGoesOn g.R.Read.remaining c.loop.input c.read_at.new.input)) c.in-Some.is c.in_ok-len.ensures.goes in
    record {
      reads = one_turn _ _ c.loop.counter c.loop.input c.read_at.new.input was.reads goes;
      live = live;
      back = λ h. now.back (was.back h);
      served = λ tells idle accounts first_in first_out first. served_on stop given accounts first_in (g.R.Read.remaining c.loop.input) (g.R.Read.remaining c.read_at.new.input) first_out (g.W.Write.contents c.loop.output) (g.W.Write.contents c.answer_all-answered.new.output) (take len room)
          c.loop.session.client c.give.new.self.client c.answer_all-answered.new.session.client (g.K.Keeper.holds c.loop.keeper) (g.K.Keeper.holds c.answer_all-answered.new.keeper) (served_as before stop had given still still_out accounts first_in (g.R.Read.remaining c.loop.input) first_out (g.W.Write.contents c.loop.output) c.loop.session.client (g.K.Keeper.holds c.loop.keeper) (c.loop.invariant.served tells idle accounts first_in first_out first)) took c.loop.invariant.live short joins
          (λ a there. let all = c.in_ok-answered.ensures.answers tells (c.loop.invariant.back idle) a there in (writes_as noted stop out given now_told now_out a c.give.new.self.client (g.W.Write.contents c.loop.output) (g.W.Write.contents c.answer_all-answered.new.output) c.answer_all-answered.new.session.client (g.K.Keeper.holds c.answer_all-answered.new.keeper) all.0, all.1));
      told = told_on (g.E.Write.contents c.args.errors.now) (g.E.Write.contents c.loop.errors) (g.E.Write.contents c.tell.new.errors) c.loop.first_fault c.answer_all-answered.new.first_fault c.tell.new.self c.in_ok-answered.ensures.kept c.tell.ensures.once c.tell.ensures.none c.tell.ensures.tells c.tell.ensures.same c.tell.ensures.told c.tell.ensures.untold was.told;
      none = λ tells h. now.none tells (was.none tells h);
    }

pub returns-clause-serves : goal.returns-clause-serves
returns-clause-serves g c tells idle accounts first_in first_out first =
    broken_served (StopsServing g.K.Keeper.refuses g.K.Keeper.will_wait c.args.location (IsTold (g.E.Write.contents c.args.errors.now) (g.E.Write.contents c.loop.errors))) (WasOut g.K.Keeper.gives g.K.Keeper.will_wait g.K.Keeper.closes c.args.location (IsTold (g.E.Write.contents c.args.errors.now) (g.E.Write.contents c.loop.errors))) accounts first_in (g.R.Read.remaining c.loop.input) first_out (g.W.Write.contents c.loop.output) c.loop.session.client (g.K.Keeper.holds c.loop.keeper) (c.loop.invariant.served tells idle accounts first_in first_out first)

pub returns-clause-fault : goal.returns-clause-fault
returns-clause-fault g c =
    let remaining = g.R.Read.remaining in
    let all : c.loop.counter ≡ 40000000 = omega arith in
    inr (refl, inl (remaining c.loop.input, reads_end remaining c.args.input.now c.loop.input (turns_as _ _ _ _ _ all c.loop.invariant.reads)))

pub loop-init : goal.loop-init
loop-init g c = record {
  reads = none_yet;
  live = c.requires;
  back = λ h. h;
  served = λ tells idle accounts first_in first_out first.
      let stop = StopsServing g.K.Keeper.refuses g.K.Keeper.will_wait c.args.location (IsTold (g.E.Write.contents c.args.errors.now) (g.E.Write.contents c.args.errors.now)) in
      served_as Unstopped stop ⊥ (WasOut g.K.Keeper.gives g.K.Keeper.will_wait g.K.Keeper.closes c.args.location (IsTold (g.E.Write.contents c.args.errors.now) (g.E.Write.contents c.args.errors.now))) (never_stops stop) (λ never. absurd never) accounts first_in (g.R.Read.remaining c.args.input.now) first_out (g.W.Write.contents c.args.output.now) c.args.session.now.client (g.K.Keeper.holds c.args.keeper.now) first;
  told = inl (c.none-first_fault.ensures.untold, c.none-first_fault.ensures.none, refl);
  none = λ tells h. h;
}

pub returns-in_default-clause-reads : goal.returns-in_default-clause-reads
returns-in_default-clause-reads g c =
    let ends = c.in_ok-len.ensures.tells (ap (λ (o : Option ℕ). Ok o) c.in_default.is) in
    inl (record { mid = c.loop.input; reads = (c.loop.counter, c.loop.invariant.reads); ends = ends })

pub returns-then-is_over-clause-reads : goal.returns-then-is_over-clause-reads
returns-then-is_over-clause-reads g c =
    let old = c.loop.input in
    let new = c.read_at.new.input in
    let shut : c.answer_all-answered.new.session.client.closed ≡ true = search rules in
    let goes : ReadGoesOn g.R.Read.remaining old new = subst (λ o. IfSome o (λ count. ReadGoesOn g.R.Read.remaining old new)) c.in-Some.is c.in_ok-len.ensures.goes in
    inr (shut, (c.loop.counter + 1, one_turn _ _ c.loop.counter old new c.loop.invariant.reads goes))

pub returns-in_err-len-clause-told : goal.returns-in_err-len-clause-told
returns-in_err-len-clause-told g c = told_one (g.E.Write.contents c.args.errors.now) (g.E.Write.contents c.loop.errors) c.loop.first_fault c.loop.invariant.told

pub returns-in_default-clause-told : goal.returns-in_default-clause-told
returns-in_default-clause-told g c = told_one (g.E.Write.contents c.args.errors.now) (g.E.Write.contents c.loop.errors) c.loop.first_fault c.loop.invariant.told

pub returns-in_err-give-clause-told : goal.returns-in_err-give-clause-told
returns-in_err-give-clause-told g c = told_one (g.E.Write.contents c.args.errors.now) (g.E.Write.contents c.loop.errors) c.loop.first_fault c.loop.invariant.told

pub returns-clause-told : goal.returns-clause-told
returns-clause-told g c = told_one (g.E.Write.contents c.args.errors.now) (g.E.Write.contents c.loop.errors) c.loop.first_fault c.loop.invariant.told

pub returns-in_err-answered-clause-told : goal.returns-in_err-answered-clause-told
returns-in_err-answered-clause-told g c = told_one (g.E.Write.contents c.args.errors.now) (g.E.Write.contents c.tell.new.errors) c.tell.new.self (told_on (g.E.Write.contents c.args.errors.now) (g.E.Write.contents c.loop.errors) (g.E.Write.contents c.tell.new.errors) c.loop.first_fault c.answer_all-answered.new.first_fault c.tell.new.self c.in_err-answered.ensures.kept c.tell.ensures.once c.tell.ensures.none c.tell.ensures.tells c.tell.ensures.same c.tell.ensures.told c.tell.ensures.untold c.loop.invariant.told)

pub returns-then-is_over-clause-told : goal.returns-then-is_over-clause-told
returns-then-is_over-clause-told g c = told_one (g.E.Write.contents c.args.errors.now) (g.E.Write.contents c.tell.new.errors) c.tell.new.self (told_on (g.E.Write.contents c.args.errors.now) (g.E.Write.contents c.loop.errors) (g.E.Write.contents c.tell.new.errors) c.loop.first_fault c.answer_all-answered.new.first_fault c.tell.new.self c.in_ok-answered.ensures.kept c.tell.ensures.once c.tell.ensures.none c.tell.ensures.tells c.tell.ensures.same c.tell.ensures.told c.tell.ensures.untold c.loop.invariant.told)
