-- A step that asks no store, or one over it, from the session as it was.
use Rattle.std.proofs.Common.{List, ℕ, is_ok, subst}
use Rattle.sqlite.specs.Held.{state}
use Rattle.managesieve_sessions.specs.Clients.{Client}
use Rattle.managesieve_sessions.specs.declared.progress.FreeStep.{FreeStep}
use Rattle.managesieve_sessions.specs.Steps.{StepsFree}
use Rattle.cli_run.specs.Serving.{AreSeen, HasGiven, HasOpenStore, StepsOrStays, Unstopped}
use Rattle.cli_run.proofs.ServingLemmas.{free_stepped}
use Rattle.cli_run.proofs.session.answer_first.Goals as goal
use Rattle.cli_run.specs.Transitions.{from_to}

pub returns-in-Ok-Made-clause-steps : goal.returns-in-Ok-Made-clause-steps
returns-in-Ok-Made-clause-steps g c tells accounts shown =
    free_stepped Unstopped (HasOpenStore g.K.Keeper.gives g.K.Keeper.will_wait c.args.location c.args.store.now) c.args.session.now.client c.step_free.new.self.client _ c.args.answers.now c.step_free.new.out (AreSeen (HasGiven g.K.Keeper.gives g.K.Keeper.will_wait c.args.location) (λ s. (state g.K.S.Store s).now) (g.K.Keeper.holds c.args.keeper.now) c.args.store.now)
    (subst (λ (s : FreeStep). StepsFree c.args.session.now.client c.step_free.new.self.client s c.args.answers.now c.step_free.new.out) c.in-Ok-Made.field-0-is c.in-Ok-Made.ensures.step) accounts shown

pub returns-in-Ok-Asks-clause-steps : goal.returns-in-Ok-Asks-clause-steps
returns-in-Ok-Asks-clause-steps g c tells accounts shown =
    let asks = subst (λ (s : FreeStep). StepsFree c.args.session.now.client c.step_free.new.self.client s c.args.answers.now c.step_free.new.out) c.in-Ok-Asks.field-0-is c.in-Ok-Asks.ensures.step in
    let after = AreSeen (HasGiven g.K.Keeper.gives g.K.Keeper.will_wait c.args.location) (λ s. (state g.K.S.Store s).now) (g.K.Keeper.holds c.answer_over_store.new.keeper) c.answer_over_store.new.store in
    subst (λ (d : Client). StepsOrStays (HasOpenStore g.K.Keeper.gives g.K.Keeper.will_wait c.args.location c.answer_over_store.new.store) accounts (from_to d c.answer_over_store.new.session.client) (from_to c.args.answers.now c.answer_over_store.new.answers) after (is_ok c.answer_over_store.result)) asks.stays
    (subst (λ (out : List ℕ). StepsOrStays (HasOpenStore g.K.Keeper.gives g.K.Keeper.will_wait c.args.location c.answer_over_store.new.store) accounts (from_to c.step_free.new.self.client c.answer_over_store.new.session.client) (from_to out c.answer_over_store.new.answers) after (is_ok c.answer_over_store.result)) asks.silent
    (c.answer_over_store.ensures.steps tells accounts shown))
