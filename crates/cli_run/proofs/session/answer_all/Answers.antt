-- Rounds before, and the one of what comes first.
use Rattle.std.proofs.Common.{◌≡◌, None, Err, false, true, refl, rules, sym, subst, arith}
use Rattle.managesieve_sessions.specs.Clients.{is_ready}
use Rattle.cli_run.specs.Serving.{HasNoted, StopsServing, StoodReady, WasOut, WritesAll}
use Rattle.cli_run.specs.Streams.{turns_end}
use Rattle.cli_run.specs.Streams.InTurn.{none_yet}
use Rattle.cli_run.proofs.StreamLemmas.{one_turn, turns_as}
use Rattle.cli_run.proofs.ServingLemmas.{closed_as, interrupted_on, interrupted_so, kept_same, kept_then, noted_still, stops_as, writes_as, writes_none, writes_on}
use Rattle.cli_run.proofs.session.answer_all.Goals as goal
use Rattle.cli_run.specs.Transitions.{from_to}

pub loop-init : goal.loop-init
loop-init g c = record {
  back = λ h. h;
  turns = none_yet;
  kept = kept_same c.args.first_fault.now;
  written = λ tells idle accounts shown. writes_none (StopsServing g.K.Keeper.refuses g.K.Keeper.will_wait c.args.location (HasNoted c.args.first_fault.now)) (WasOut g.K.Keeper.gives g.K.Keeper.will_wait g.K.Keeper.closes c.args.location (HasNoted c.args.first_fault.now)) accounts c.args.session.now.client (g.W.Write.contents c.args.output.now) (g.K.Keeper.holds c.args.keeper.now) shown;
  none = λ tells h. h;
}

pub loop-preserved : goal.loop-preserved
loop-preserved g c =
    let was = c.loop.invariant in
    let had = WasOut g.K.Keeper.gives g.K.Keeper.will_wait g.K.Keeper.closes c.args.location (HasNoted c.loop.first_fault) in
    let given = WasOut g.K.Keeper.gives g.K.Keeper.will_wait g.K.Keeper.closes c.args.location (HasNoted c.answer_some.new.first_fault) in
    let before = StopsServing g.K.Keeper.refuses g.K.Keeper.will_wait c.args.location (HasNoted c.loop.first_fault) in
    let stop = StopsServing g.K.Keeper.refuses g.K.Keeper.will_wait c.args.location (HasNoted c.answer_some.new.first_fault) in
    let now = c.in_ok-answer_some.ensures in
    let ready : is_ready c.loop.session.client ≡ true = search rules in
    record {
      back = λ h. now.back (was.back h);
      turns = one_turn _ _ c.loop.counter c.loop.session.client c.answer_some.new.session.client was.turns ready;
      kept = kept_then c.args.first_fault.now c.loop.first_fault c.answer_some.new.first_fault was.kept now.kept;
      written = λ tells idle accounts shown.
          writes_on stop given accounts c.args.session.now.client c.loop.session.client c.answer_some.new.session.client (g.W.Write.contents c.args.output.now) (g.W.Write.contents c.loop.output) (g.W.Write.contents c.answer_some.new.output)
          (g.K.Keeper.holds c.loop.keeper) (g.K.Keeper.holds c.answer_some.new.keeper) (writes_as before stop had given (stops_as g.K.Keeper.refuses g.K.Keeper.will_wait c.args.location _ _ (noted_still c.loop.first_fault c.answer_some.new.first_fault now.kept)) (closed_as g.K.Keeper.gives g.K.Keeper.will_wait g.K.Keeper.closes c.args.location _ _ (noted_still c.loop.first_fault c.answer_some.new.first_fault now.kept)) accounts c.args.session.now.client (g.W.Write.contents c.args.output.now) (g.W.Write.contents c.loop.output) c.loop.session.client (g.K.Keeper.holds c.loop.keeper) (was.written tells idle accounts shown)) (now.answers tells (was.back idle));
      none = λ tells h. now.none tells (was.none tells h);
    }

pub returns-then-not-ready-clause-answers : goal.returns-then-not-ready-clause-answers
returns-then-not-ready-clause-answers g c tells idle accounts shown =
    let done : is_ready c.loop.session.client ≡ false = search rules in
    (c.loop.invariant.written tells idle accounts shown, done)

pub returns-in_err-answer_some-clause-answers : goal.returns-in_err-answer_some-clause-answers
returns-in_err-answer_some-clause-answers g c tells idle accounts shown =
    let had = WasOut g.K.Keeper.gives g.K.Keeper.will_wait g.K.Keeper.closes c.args.location (HasNoted c.loop.first_fault) in
    let given = WasOut g.K.Keeper.gives g.K.Keeper.will_wait g.K.Keeper.closes c.args.location (HasNoted c.answer_some.new.first_fault) in
    let before = StopsServing g.K.Keeper.refuses g.K.Keeper.will_wait c.args.location (HasNoted c.loop.first_fault) in
    let stop = StopsServing g.K.Keeper.refuses g.K.Keeper.will_wait c.args.location (HasNoted c.answer_some.new.first_fault) in
    let is : c.from_residual.result ≡ Err c.in_err-answer_some.field-0.0 = search rules in
    subst (WritesAll stop given accounts (from_to c.args.session.now.client c.answer_some.new.session.client) (from_to (g.W.Write.contents c.args.output.now) (g.W.Write.contents c.answer_some.new.output)) (g.K.Keeper.holds c.answer_some.new.keeper)) (sym is)
    (interrupted_on stop given accounts c.args.session.now.client c.loop.session.client (g.W.Write.contents c.args.output.now) (g.W.Write.contents c.loop.output) (g.W.Write.contents c.answer_some.new.output)
    (g.K.Keeper.holds c.loop.keeper) (g.K.Keeper.holds c.answer_some.new.keeper) (writes_as before stop had given (stops_as g.K.Keeper.refuses g.K.Keeper.will_wait c.args.location _ _ (noted_still c.loop.first_fault c.answer_some.new.first_fault c.in_err-answer_some.ensures.kept)) (closed_as g.K.Keeper.gives g.K.Keeper.will_wait g.K.Keeper.closes c.args.location _ _ (noted_still c.loop.first_fault c.answer_some.new.first_fault c.in_err-answer_some.ensures.kept)) accounts c.args.session.now.client (g.W.Write.contents c.args.output.now) (g.W.Write.contents c.loop.output) c.loop.session.client (g.K.Keeper.holds c.loop.keeper) (c.loop.invariant.written tells idle accounts shown)) (c.in_err-answer_some.ensures.answers tells (c.loop.invariant.back idle)))

pub returns-clause-answers : goal.returns-clause-answers
returns-clause-answers g c tells idle accounts shown =
    interrupted_so (StopsServing g.K.Keeper.refuses g.K.Keeper.will_wait c.args.location (HasNoted c.loop.first_fault)) (WasOut g.K.Keeper.gives g.K.Keeper.will_wait g.K.Keeper.closes c.args.location (HasNoted c.loop.first_fault)) accounts c.args.session.now.client c.loop.session.client (g.W.Write.contents c.args.output.now) (g.W.Write.contents c.loop.output) (g.K.Keeper.holds c.loop.keeper) (c.loop.invariant.written tells idle accounts shown)

pub returns-clause-fault : goal.returns-clause-fault
returns-clause-fault g c =
    let all : c.loop.counter ≡ 18446744073709551615 = omega arith in
    (refl, (None, turns_end None StoodReady c.args.session.now.client c.loop.session.client (turns_as _ _ _ _ _ all c.loop.invariant.turns)))

pub returns-in_err-answer_some-clause-kept : goal.returns-in_err-answer_some-clause-kept
returns-in_err-answer_some-clause-kept g c = kept_then c.args.first_fault.now c.loop.first_fault c.answer_some.new.first_fault c.loop.invariant.kept c.in_err-answer_some.ensures.kept
