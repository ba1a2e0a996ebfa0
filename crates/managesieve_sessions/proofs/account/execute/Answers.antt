use Rattle.std.proofs.Common.{◌≡◌, Err, OnOk, rules}
use Rattle.sqlite.specs.Held.{state}
use Rattle.store_accounts.specs.declared.refusal.Refusal.TheVariants.{NoUser}
use Rattle.managesieve_sessions.specs.Orders.{ObeyedTo, MayObey}
use Rattle.managesieve_sessions.specs.CommandClasses.{of_script}
use Rattle.managesieve_sessions.proofs.ActLemmas.{never_ok, glanced, acts_read}
use Rattle.managesieve_sessions.proofs.OrderLemmas.{refused_obeys, obeys_away, obeys_quietly, obeys_made, obeys_undone}
use Rattle.managesieve_sessions.proofs.account.execute.Goals as goal

pub returns-in_err-turn_away-clause-acts : goal.returns-in_err-turn_away-clause-acts
returns-in_err-turn_away-clause-acts g c =
    let undone : OnOk c.from_residual.result ⊥ = search rules in
    acts_read (state g.S.Store c.args.store.now) (state g.S.Store c.decision_on-decided.new.store) (ObeyedTo c.args.user.now (of_script c.args.command.now) c.from_residual.result c.args.out.now c.turn_away.new.out) (MayObey c.args.user.now (of_script c.args.command.now)) c.from_residual.result
    (λ clean open_before. never_ok c.from_residual.result _ undone) (glanced (state g.S.Store c.args.store.now) (state g.S.Store c.decision_on-decided.new.store) c.decision_on-decided.result c.decision_on-decided.ensures.keeps)
    (λ clean accounts shown. refused_obeys c.args.user.now (of_script c.args.command.now) c.from_residual.result c.args.out.now c.turn_away.new.out accounts undone)

pub returns-in-Err-NoUser-clause-acts : goal.returns-in-Err-NoUser-clause-acts
returns-in-Err-NoUser-clause-acts g c =
    let is : c.decision_on-decided.result ≡ Err NoUser = search rules in
    obeys_away c.args.user.now (of_script c.args.command.now) (state g.S.Store c.args.store.now) (state g.S.Store c.decision_on-decided.new.store) c.decision_on-decided.result is c.decision_on-decided.ensures c.args.out.now c.turn_away.new.out c.in_ok-turn_away.ensures.told

pub returns-in_err-reply-clause-acts : goal.returns-in_err-reply-clause-acts
returns-in_err-reply-clause-acts g c =
    let undone : OnOk c.from_residual-in_err-reply.result ⊥ = search rules in
    acts_read (state g.S.Store c.args.store.now) (state g.S.Store c.decision_on-decided.new.store) (ObeyedTo c.args.user.now (of_script c.args.command.now) c.from_residual-in_err-reply.result c.args.out.now c.args.out.now) (MayObey c.args.user.now (of_script c.args.command.now)) c.from_residual-in_err-reply.result
    (λ clean open_before. never_ok c.from_residual-in_err-reply.result _ undone) (glanced (state g.S.Store c.args.store.now) (state g.S.Store c.decision_on-decided.new.store) c.decision_on-decided.result c.decision_on-decided.ensures.keeps)
    (λ clean accounts shown. refused_obeys c.args.user.now (of_script c.args.command.now) c.from_residual-in_err-reply.result c.args.out.now c.args.out.now accounts undone)

pub returns-in_err-spell-clause-acts : goal.returns-in_err-spell-clause-acts
returns-in_err-spell-clause-acts g c =
    let undone : OnOk c.from_residual-in_err-spell.result ⊥ = search rules in
    acts_read (state g.S.Store c.args.store.now) (state g.S.Store c.decision_on-decided.new.store) (ObeyedTo c.args.user.now (of_script c.args.command.now) c.from_residual-in_err-spell.result c.args.out.now c.spell.new.out) (MayObey c.args.user.now (of_script c.args.command.now)) c.from_residual-in_err-spell.result
    (λ clean open_before. never_ok c.from_residual-in_err-spell.result _ undone) (glanced (state g.S.Store c.args.store.now) (state g.S.Store c.decision_on-decided.new.store) c.decision_on-decided.result c.decision_on-decided.ensures.keeps)
    (λ clean accounts shown. refused_obeys c.args.user.now (of_script c.args.command.now) c.from_residual-in_err-spell.result c.args.out.now c.spell.new.out accounts undone)

pub returns-in_default-change-clause-acts : goal.returns-in_default-change-clause-acts
returns-in_default-change-clause-acts g c =
    obeys_quietly c.args.user.now (of_script c.args.command.now) (state g.S.Store c.args.store.now) (state g.S.Store c.decision_on-decided.new.store) c.decision_on-decided.result c.in_ok-reply.field-0 c.in_ok-reply.was c.decision_on-decided.ensures c.args.out.now c.spell.new.out c.in_default-change.is c.in_ok-spell.ensures.ok

pub returns-in-Err-clause-acts : goal.returns-in-Err-clause-acts
returns-in-Err-clause-acts g c =
    obeys_undone c.args.user.now (of_script c.args.command.now) (state g.S.Store c.args.store.now) (state g.S.Store c.decision_on-decided.new.store) c.decision_on-decided.result c.in_ok-reply.field-0 c.in_ok-reply.was c.decision_on-decided.ensures
    (state g.S.Store c.make.new.store) c.in-Some.change c.in-Some.is c.make.result c.make.ensures c.args.out.now c.shorten.new.out c.in-Err.refusal c.in_a_step.result c.in-Err.is c.in_a_step.ensures.named

pub returns-clause-acts : goal.returns-clause-acts
returns-clause-acts g c =
    obeys_made c.args.user.now (of_script c.args.command.now) (state g.S.Store c.args.store.now) (state g.S.Store c.decision_on-decided.new.store) c.decision_on-decided.result c.in_ok-reply.field-0 c.in_ok-reply.was c.decision_on-decided.ensures
    (state g.S.Store c.make.new.store) c.in-Some.change c.in-Some.is c.make.result c.make.ensures c.args.out.now c.spell.new.out c.in_ok-spell.ensures.ok c.in_default-make.field-0 c.in_default-make.is
