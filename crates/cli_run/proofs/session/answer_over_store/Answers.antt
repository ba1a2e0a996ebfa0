-- The store is open, and the step was made or refused.
use Rattle.std.proofs.Common.{◌≡◌, Some, Result, OnErr, ap, refl, subst}
use Rattle.sqlite.specs.Held.{state}
use Rattle.store_accounts.specs.Shows.{Presents}
use Rattle.store_accounts.specs.declared.refusal.Refusal.{Refusal}
use Rattle.managesieve_sessions.specs.declared.progress.Progress.{Progress}
use Rattle.managesieve_sessions.specs.Counts.{SessionView}
use Rattle.cli_run.specs.Serving.{AreSeen, HasGiven, HasOpenStore}
use Rattle.cli_run.proofs.ServingLemmas.{step_made, step_refused, steps_as}
use Rattle.cli_run.proofs.session.answer_over_store.Goals as goal

pub returns-in-Ok-clause-steps : goal.returns-in-Ok-clause-steps
returns-in-Ok-clause-steps g c tells accounts shown =
    let sure = g.met.K.Keeper.sure c.step_asked-made.new.store tells in
    steps_as (HasGiven g.K.Keeper.gives g.K.Keeper.will_wait c.args.location) (HasOpenStore g.K.Keeper.gives g.K.Keeper.will_wait c.args.location (Some c.step_asked-made.new.store)) accounts c.args.session.now.client c.args.answers.now c.step_asked-made.new.out c.step_asked-made.new.self.client (λ a. (HasGiven g.K.Keeper.gives g.K.Keeper.will_wait c.args.location) × Presents (state g.K.S.Store c.step_asked-made.new.store).now a) (λ given. (given, refl))
    (step_made (HasGiven g.K.Keeper.gives g.K.Keeper.will_wait c.args.location) (AreSeen (HasGiven g.K.Keeper.gives g.K.Keeper.will_wait c.args.location) (λ s. (state g.K.S.Store s).now) (g.K.Keeper.holds c.args.keeper.now) c.args.store.now) (state g.K.S.Store c.in_ok-opened.opened) (state g.K.S.Store c.step_asked-made.new.store)
    (c.in_ok-opened.ensures.opened tells) sure.0 sure.1 c.args.session.now.client c.step_asked-made.new.self.client c.args.answers.now c.step_asked-made.new.out _ c.step_asked-made.result c.in-Ok.is c.step_asked-made.ensures.steps.acts.carries accounts shown)

pub returns-in-Err-clause-steps : goal.returns-in-Err-clause-steps
returns-in-Err-clause-steps g c tells =
    let sure = g.met.K.Keeper.sure c.step_asked-made.new.store tells in
    let same = subst (λ (r : Result Progress Refusal). OnErr r ((c.step_asked-made.new.self ≡ c.args.session.now) × (c.step_asked-made.new.out ≡ c.args.answers.now))) c.in-Err.is c.step_asked-made.ensures.steps.err in
    step_refused (HasGiven g.K.Keeper.gives g.K.Keeper.will_wait c.args.location) (AreSeen (HasGiven g.K.Keeper.gives g.K.Keeper.will_wait c.args.location) (λ s. (state g.K.S.Store s).now) (g.K.Keeper.holds c.args.keeper.now) c.args.store.now) (state g.K.S.Store c.in_ok-opened.opened) (state g.K.S.Store c.step_asked-made.new.store)
    (c.in_ok-opened.ensures.opened tells) sure.0 sure.1 c.args.session.now.client c.step_asked-made.new.self.client c.args.answers.now c.step_asked-made.new.out _ c.step_asked-made.result c.in-Err.is c.step_asked-made.ensures.steps.acts.carries (ap (λ (s : SessionView). s.client) same.0) same.1
