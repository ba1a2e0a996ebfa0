use Rattle.std.proofs.Common.{ℕ, List, OnOk, sym, subst, rules}
use Rattle.sqlite.specs.Held.{state}
use Rattle.managesieve_sessions.specs.declared.progress.FreeStep.{FreeStep}
use Rattle.managesieve_sessions.specs.Acts.{Acts}
use Rattle.managesieve_sessions.specs.Clients.{Client}
use Rattle.managesieve_sessions.specs.Orders.{SessionStepsTo, MayStep}
use Rattle.managesieve_sessions.specs.Steps.{StepsFree, Asked}
use Rattle.managesieve_sessions.proofs.ActLemmas.{no_glance}
use Rattle.managesieve_sessions.proofs.AskedLemmas.{refused_acts, over_acts}
use Rattle.managesieve_sessions.proofs.session.Session.step.Goals as goal

pub returns-in_err-progress-clause-acts : goal.returns-in_err-progress-clause-acts
returns-in_err-progress-clause-acts g c =
    let none : OnOk c.from_residual.result ⊥ = search rules in
    refused_acts c.args.self.now.client c.step_free.new.self.client c.from_residual.result c.args.out.now c.step_free.new.out (state g.S.Store c.args.store.now) (state g.S.Store c.args.store.now) none (no_glance (state g.S.Store c.args.store.now))

pub returns-in-Made-clause-acts : goal.returns-in-Made-clause-acts
returns-in-Made-clause-acts g c =
    over_acts c.args.self.now.client c.step_free.new.self.client c.in-Made.progress c.args.out.now c.step_free.new.out (state g.S.Store c.args.store.now)
    (subst (λ (s : FreeStep). StepsFree c.args.self.now.client c.step_free.new.self.client s c.args.out.now c.step_free.new.out) c.in-Made.is c.in_ok-progress.ensures.step)

pub returns-in-Asks-clause-acts : goal.returns-in-Asks-clause-acts
returns-in-Asks-clause-acts g c =
    let asks = subst (λ (s : FreeStep). StepsFree c.args.self.now.client c.step_free.new.self.client s c.args.out.now c.step_free.new.out) c.in-Asks.is c.in_ok-progress.ensures.step in
    subst (λ (out : List ℕ). Acts (SessionStepsTo c.args.self.now.client c.step_asked.new.self.client c.step_asked.result out c.step_asked.new.out) (MayStep c.args.self.now.client) (state g.S.Store c.args.store.now) (state g.S.Store c.step_asked.new.store) c.step_asked.result)
    asks.silent
    (subst (λ (k : Client). Acts (SessionStepsTo k c.step_asked.new.self.client c.step_asked.result c.step_free.new.out c.step_asked.new.out) (MayStep k) (state g.S.Store c.args.store.now) (state g.S.Store c.step_asked.new.store) c.step_asked.result)
    asks.stays c.step_asked.ensures.steps.acts)

pub step_asked-requires : goal.step_asked-requires
step_asked-requires g c =
    let asks = subst (λ (s : FreeStep). StepsFree c.args.self.now.client c.step_free.new.self.client s c.args.out.now c.step_free.new.out) c.in-Asks.is c.in_ok-progress.ensures.step in
    subst (λ (k : Client). Asked k c.in-Asks.order) (sym asks.stays) asks.asked
