use Rattle.std.proofs.Common.{◌≡◌, ℕ, List, Option, true, sym, ap, subst, rules}
use Rattle.store_accounts.specs.declared.refusal.Refusal.TheVariants.{Memory}
use Rattle.managesieve_sessions.specs.Clients.{Client}
use Rattle.managesieve_sessions.specs.Counts.{SessionView}
use Rattle.managesieve_sessions.specs.Refusing.{was_refused}
use Rattle.managesieve_sessions.specs.Steps.{HasFirstCommand, may_lack}
use Rattle.managesieve_sessions.specs.CommandOutcomes.{IsOutcomeAlone}
use Rattle.managesieve_sessions.proofs.AskedLemmas.{command_lacks}
use Rattle.managesieve_sessions.proofs.FreeLemmas.{turn_over, free_turn_step}
use Rattle.managesieve_sessions.proofs.StepLemmas.{on_err}
use Rattle.managesieve_sessions.proofs.session.Session.step_free.Goals as goal

pub returns-in_ok-progress-in-Made-2-clause-step : goal.returns-in_ok-progress-in-Made-2-clause-step
returns-in_ok-progress-in-Made-2-clause-step c =
    let kept = rw c.in-Command.is at c.in_ok-progress.ensures.same in
    let has = rw c.in-Command.is at c.in_ok-progress.ensures.step in
    let first = c.step_over.new.self.client in
    let command = c.in-Command.command in
    let turn = c.in-Made-2.turn in
    let here : HasFirstCommand first command = subst (λ (k : Client). HasFirstCommand k command) (sym (ap (λ (v : SessionView). v.client) kept.0)) has in
    let user : first.user ≡ c.self.inside.user = ap (λ (v : SessionView). v.client.user) (sym c.self.view_is) in
    let free : IsOutcomeAlone c.self.inside.user command turn = rw c.in-Made-2.is at c.in_ok-turn.ensures in
    turn_over c.args.self.now.client first c.apply_outcome.new.self.client command here.used turn c.in_ok-progress-in-Made-2.progress c.args.out.now c.step_over.new.out c.apply_outcome.new.out
    (ap (λ (v : SessionView). v.client) kept.0) kept.1 here.first c.in_ok-progress-in-Made-2.ensures.session c.in_ok-progress-in-Made-2.ensures.goes_on c.in_ok-progress-in-Made-2.ensures.told
    (λ accounts. free_turn_step accounts first command here.used turn (here.live, here.first) (subst (λ (u : Option (List ℕ)). IsOutcomeAlone u command turn) (sym user) free))

pub returns-in_err-progress-clause-refused : goal.returns-in_err-progress-clause-refused
returns-in_err-progress-clause-refused c =
    let lacks : may_lack c.args.self.now.client ≡ true = search rules in
    on_err c.from_residual.result (was_refused c.args.self.now.client Memory lacks)

pub returns-in_err-turn-clause-refused : goal.returns-in_err-turn-clause-refused
returns-in_err-turn-clause-refused c =
    let has = rw c.in-Command.is at c.in_ok-progress.ensures.step in
    on_err c.from_residual-in_err-turn.result (was_refused c.args.self.now.client Memory (command_lacks c.args.self.now.client c.in-Command.command has))

pub returns-in_err-progress-in-Made-2-clause-refused : goal.returns-in_err-progress-in-Made-2-clause-refused
returns-in_err-progress-in-Made-2-clause-refused c =
    let has = rw c.in-Command.is at c.in_ok-progress.ensures.step in
    on_err c.from_residual-in_err-progress-in-Made-2.result (was_refused c.args.self.now.client Memory (command_lacks c.args.self.now.client c.in-Command.command has))
