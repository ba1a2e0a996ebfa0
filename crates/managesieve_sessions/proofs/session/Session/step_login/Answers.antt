use Rattle.std.proofs.Common.{◌≡◌, OnOk, sym, ap, ◌∙◌, subst, rules}
use Rattle.sqlite.specs.Held.{state}
use Rattle.managesieve_sessions.specs.Counts.{SessionView}
use Rattle.managesieve_sessions.specs.declared.command_class.StoreCommand.TheVariants.{Login}
use Rattle.managesieve_sessions.specs.CommandClasses.{of_login}
use Rattle.managesieve_sessions.specs.CommandOutcomes.{IsCommandOutcome, FitsLogin, login_text, admitted_in}
use Rattle.managesieve_sessions.proofs.AskedLemmas.{refused_acts, login_answered, login_other}
use Rattle.managesieve_sessions.proofs.session.Session.step_login.Goals as goal

pub returns-in_err-who : goal.returns-in_err-who
returns-in_err-who g c =
    let none : OnOk c.from_residual.result ⊥ = search rules in
    record {
      acts =
          refused_acts c.args.self.now.client c.args.self.now.client c.from_residual.result c.args.out.now c.args.out.now (state g.S.Store c.args.store.now) (state g.S.Store c.admitted.new.store) none c.admitted.ensures.reads.glances;
      counts = search rules;
      scans = search rules;
      err = search rules;
      named = search rules;
    }

pub returns-in_err-turn : goal.returns-in_err-turn
returns-in_err-turn g c =
    let none : OnOk c.from_residual-in_err-turn.result ⊥ = search rules in
    record {
      acts =
          refused_acts c.args.self.now.client c.args.self.now.client c.from_residual-in_err-turn.result c.args.out.now c.args.out.now (state g.S.Store c.args.store.now) (state g.S.Store c.admitted.new.store) none c.admitted.ensures.reads.glances;
      counts = search rules;
      scans = search rules;
      err = search rules;
      named = search rules;
    }

pub returns-in_err-progress : goal.returns-in_err-progress
returns-in_err-progress g c =
    let none : OnOk c.from_residual-in_err-progress.result ⊥ = search rules in
    record {
      acts =
          refused_acts c.args.self.now.client c.apply_outcome.new.self.client c.from_residual-in_err-progress.result c.args.out.now c.apply_outcome.new.out (state g.S.Store c.args.store.now) (state g.S.Store c.admitted.new.store) none c.admitted.ensures.reads.glances;
      counts = search rules;
      scans = search rules;
      err = search rules;
      named = search rules;
    }

pub returns : goal.returns
returns g c =
    let user : c.self.inside.user ≡ c.args.self.now.client.user = ap (λ (v : SessionView). v.client.user) c.self.view_is in
    let failures : c.self.inside.failures ≡ c.args.self.now.client.failures = ap (λ (v : SessionView). v.client.failures) c.self.view_is in
    let turn = c.in_ok-turn.ensures in
    record {
      acts =
          login_answered c.args.self.now.client (Login c.args.command.now) c.requires (state g.S.Store c.args.store.now) (state g.S.Store c.admitted.new.store) c.apply_outcome.new.self.client c.in_ok-who.who c.in_ok-turn.turn c.in_ok-progress.progress
          c.args.out.now c.apply_outcome.new.out (login_other c.args.command.now) c.in_ok-who.ensures.reads.live c.admitted.ensures.reads.glances
          (λ clean accounts shown. ap (λ o. admitted_in accounts o) (ap (λ o. login_text o (of_login c.args.command.now)) (sym user) ∙ sym c.login_text.ensures) ∙ c.in_ok-who.ensures.reads.found clean accounts shown)
          (subst (λ f. IsCommandOutcome (FitsLogin c.args.self.now.client.user f (of_login c.args.command.now) c.in_ok-who.who) (of_login c.args.command.now) c.in_ok-turn.turn) failures
          (subst (λ o. IsCommandOutcome (FitsLogin o c.self.inside.failures (of_login c.args.command.now) c.in_ok-who.who) (of_login c.args.command.now) c.in_ok-turn.turn) user turn))
          c.in_ok-progress.ensures.told c.in_ok-progress.ensures.session c.in_ok-progress.ensures.goes_on;
      counts = search rules;
      scans = search rules;
      err = search rules;
      named = search rules;
    }
