-- Each step answers what comes first, after what was answered.
use Rattle.std.proofs.Common.{◌≡◌, ◌∙◌, ap, refl, rules, true, is_ok, inr, arith}
use Rattle.sqlite.specs.Effect.{Database}
use Rattle.sqlite.specs.Held.{state}
use Rattle.managesieve_sessions.specs.Clients.{is_ready}
use Rattle.cli_run.specs.Serving.{AreSeen, HasGiven, HasOpenStore, Unstopped}
use Rattle.cli_run.proofs.ServingLemmas.{answered_as, answered_none, answered_on, step_answers}
use Rattle.cli_run.proofs.StreamLemmas.{one_turn, turns_as}
use Rattle.cli_run.specs.Streams.InTurn.{none_yet}
use Rattle.cli_run.proofs.session.answer_ready.Goals as goal

pub loop-init : goal.loop-init
loop-init g c = record {
  answered = λ tells accounts shown. answered_none Unstopped (HasOpenStore g.K.Keeper.gives g.K.Keeper.will_wait c.args.location c.args.store.now) accounts c.args.session.now.client c.args.answers.now (AreSeen (HasGiven g.K.Keeper.gives g.K.Keeper.will_wait c.args.location) (λ s. (state g.K.S.Store s).now) (g.K.Keeper.holds c.args.keeper.now) c.args.store.now) shown;
  none = λ tells empty none. (refl, none);
  turns = none_yet;
  closed = refl;
}

pub returns-in_err-answer_first-clause-answers : goal.returns-in_err-answer_first-clause-answers
returns-in_err-answer_first-clause-answers g c tells accounts shown =
    let ready : is_ready c.loop.session.client ≡ true = search rules in
    let Shown = AreSeen (HasGiven g.K.Keeper.gives g.K.Keeper.will_wait c.args.location) (λ s. (state g.K.S.Store s).now) (g.K.Keeper.holds c.answer_first.new.keeper) c.answer_first.new.store in
    answered_on Unstopped (HasOpenStore g.K.Keeper.gives g.K.Keeper.will_wait c.args.location c.answer_first.new.store) accounts c.args.session.now.client c.loop.session.client c.answer_first.new.session.client c.args.answers.now c.loop.answers c.answer_first.new.answers
    (AreSeen (HasGiven g.K.Keeper.gives g.K.Keeper.will_wait c.args.location) (λ s. (state g.K.S.Store s).now) (g.K.Keeper.holds c.loop.keeper) c.loop.store) Shown (answered_as Unstopped Unstopped (HasOpenStore g.K.Keeper.gives g.K.Keeper.will_wait c.args.location c.loop.store) (HasOpenStore g.K.Keeper.gives g.K.Keeper.will_wait c.args.location c.answer_first.new.store) (λ x never. never) (λ given. (given.0, c.answer_first.ensures.open given.1)) accounts c.args.session.now.client c.args.answers.now c.loop.answers c.loop.session.client (AreSeen (HasGiven g.K.Keeper.gives g.K.Keeper.will_wait c.args.location) (λ s. (state g.K.S.Store s).now) (g.K.Keeper.holds c.loop.keeper) c.loop.store) (c.loop.invariant.answered tells accounts shown))
    (λ a there. step_answers Unstopped (HasOpenStore g.K.Keeper.gives g.K.Keeper.will_wait c.args.location c.answer_first.new.store) a c.loop.session.client c.answer_first.new.session.client c.loop.answers c.answer_first.new.answers Shown (is_ok c.answer_first.result) ready (c.answer_first.ensures.steps tells a there))

pub loop-preserved : goal.loop-preserved
loop-preserved g c =
    let ready : is_ready c.loop.session.client ≡ true = search rules in
    let Shown = AreSeen (HasGiven g.K.Keeper.gives g.K.Keeper.will_wait c.args.location) (λ s. (state g.K.S.Store s).now) (g.K.Keeper.holds c.answer_first.new.keeper) c.answer_first.new.store in
    record {
      answered = λ tells accounts shown. answered_on Unstopped (HasOpenStore g.K.Keeper.gives g.K.Keeper.will_wait c.args.location c.answer_first.new.store) accounts c.args.session.now.client c.loop.session.client c.answer_first.new.session.client c.args.answers.now c.loop.answers c.answer_first.new.answers
          (AreSeen (HasGiven g.K.Keeper.gives g.K.Keeper.will_wait c.args.location) (λ s. (state g.K.S.Store s).now) (g.K.Keeper.holds c.loop.keeper) c.loop.store) Shown (answered_as Unstopped Unstopped (HasOpenStore g.K.Keeper.gives g.K.Keeper.will_wait c.args.location c.loop.store) (HasOpenStore g.K.Keeper.gives g.K.Keeper.will_wait c.args.location c.answer_first.new.store) (λ x never. never) (λ given. (given.0, c.answer_first.ensures.open given.1)) accounts c.args.session.now.client c.args.answers.now c.loop.answers c.loop.session.client (AreSeen (HasGiven g.K.Keeper.gives g.K.Keeper.will_wait c.args.location) (λ s. (state g.K.S.Store s).now) (g.K.Keeper.holds c.loop.keeper) c.loop.store) (c.loop.invariant.answered tells accounts shown))
          (λ a there. step_answers Unstopped (HasOpenStore g.K.Keeper.gives g.K.Keeper.will_wait c.args.location c.answer_first.new.store) a c.loop.session.client c.answer_first.new.session.client c.loop.answers c.answer_first.new.answers Shown (is_ok c.answer_first.result) ready (c.answer_first.ensures.steps tells a there));
      none = λ tells empty none.
          let was = c.loop.invariant.none tells empty none in
          let now = c.answer_first.ensures.none tells (ap (λ (db : Database). db.schema) was.0 ∙ empty) was.1 in
          (now.0 ∙ was.0, now.1);
      turns = one_turn _ _ c.loop.counter c.loop.session.client c.answer_first.new.session.client c.loop.invariant.turns ready;
      closed = c.answer_first.ensures.closed ∙ c.loop.invariant.closed;
    }

pub returns-clause-whole : goal.returns-clause-whole
returns-clause-whole g c =
    let all : c.loop.counter ≡ 18446744073709551615 = omega arith in
    inr (inr (turns_as _ _ _ _ _ all c.loop.invariant.turns))
