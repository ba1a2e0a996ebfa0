use Rattle.std.proofs.Common.{◌≡◌, false, Some, Err, sym, ap, ◌∙◌, subst, rules}
use Rattle.sqlite.specs.Held.{state}
use Rattle.managesieve_sessions.specs.Clients.{reach_in, without_first}
use Rattle.managesieve_sessions.specs.Orders.{ActsStep}
use Rattle.managesieve_sessions.specs.CommandOutcomes.{client_after}
use Rattle.managesieve_sessions.specs.declared.command_class.StoreCommand.TheVariants.{Script}
use Rattle.managesieve_sessions.specs.declared.command_outcome.SessionChange.{SessionChange}
use Rattle.managesieve_sessions.proofs.AskedLemmas.{about_scripts, scripts_refused, scripts_answered}
use Rattle.managesieve_sessions.proofs.session.Session.step_scripts.Goals as goal

pub returns-in_err-is_open : goal.returns-in_err-is_open
returns-in_err-is_open g c =
    let is : c.args.self.now.client.user ≡ Some c.as_slice.result.now = c.requires.owner ∙ ap Some (sym c.as_slice.ensures) in
    let refusal = c.in_err-is_open.field-0.0 in
    let told : c.from_residual.result ≡ Err refusal = search (rules, c.from_residual.ensures) in
    record {
      acts =
          subst (λ r. ActsStep c.args.self.now.client c.args.self.now.client c.args.out.now c.execute.new.out (state g.S.Store c.args.store.now) (state g.S.Store c.execute.new.store) r) (sym told)
          (scripts_refused c.args.self.now.client (Script c.args.user.now c.args.command.now) c.requires c.as_slice.result.now is (about_scripts c.args.command.now) (state g.S.Store c.args.store.now) (state g.S.Store c.execute.new.store) refusal refusal
          c.args.out.now c.execute.new.out c.in_err-is_open.ensures.named c.in_err-is_open.ensures.acts);
      counts = search rules;
      scans = search rules;
      err = search rules;
      named = search rules;
    }

pub returns : goal.returns
returns g c =
    let is : c.args.self.now.client.user ≡ Some c.as_slice.result.now = c.requires.owner ∙ ap Some (sym c.as_slice.ensures) in
    record {
      acts =
          scripts_answered c.args.self.now.client (Script c.args.user.now c.args.command.now) c.requires c.as_slice.result.now is (about_scripts c.args.command.now) (state g.S.Store c.args.store.now) (state g.S.Store c.execute.new.store) c.follow.new.self.client
          c.in_ok-is_open.is_open c.args.out.now c.execute.new.out (c.follow.ensures.session ∙ ap (λ (s : SessionChange). client_after s (without_first false (reach_in c.args.self.now.client) c.args.self.now.client)) c.session_change_of.ensures) c.in_ok-is_open.ensures.acts;
      counts = search rules;
      scans = search rules;
      err = search rules;
      named = search rules;
    }
