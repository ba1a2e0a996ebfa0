use Rattle.std.proofs.Common.{◌≡◌, rules, Some, refl, subst, true}
use Rattle.std.specs.Ordering.{nat_cmp}
use Rattle.std.specs.BTreeMap as tree
use Rattle.store_accounts.specs.declared.refusal.Refusal.TheVariants.{Memory}
use Rattle.managesieve_sessions.specs.declared.progress.FreeStep.{FreeStep}
use Rattle.managesieve_sessions.specs.Steps.{StepsFree, may_lack}
use Rattle.store_engine.specs.declared.answer.Answer.TheVariants.{Refused}
use Rattle.store_engine.specs.declared.event.Event.TheVariants.{Step}
use Rattle.store_engine.proofs.HostLemmas.{free_lacks, free_told, ignored_step, lacking_back}
use Rattle.store_engine.proofs.clients.step_free.Goals as goal

pub returns-in_default-clause-made : goal.returns-in_default-clause-made
returns-in_default-clause-made c = ignored_step c.args.sessions.now c.get_mut.follows.lender-at-none c.args.number (search rules) (search rules)

pub returns-in-Ok-Made-clause-made : goal.returns-in-Ok-Made-clause-made
returns-in-Ok-Made-clause-made c =
    let one : Some c.in-Some.session.now ≡ tree.get nat_cmp c.args.sessions.now c.args.number = search rules in
    let put : tree.Updates nat_cmp c.args.sessions.now (c.get_mut.follows.lender c.step_free.new.self) c.args.number (Some c.step_free.new.self) = search rules in
    free_told c.args.sessions.now (c.get_mut.follows.lender c.step_free.new.self) c.args.number c.in-Some.session.now c.step_free.new.self c.in-Ok-Made.progress c.new-out.result c.step_free.new.out one put
    (subst (λ (s : FreeStep). StepsFree c.in-Some.session.now.client c.step_free.new.self.client s c.new-out.result c.step_free.new.out) c.in-Ok-Made.field-0-is c.in-Ok-Made.ensures.step) (search rules)

pub returns-in-Err-clause-made : goal.returns-in-Err-clause-made
returns-in-Err-clause-made c =
    let one : Some c.in-Some.session.now ≡ tree.get nat_cmp c.args.sessions.now c.args.number = search rules in
    let put : tree.Updates nat_cmp c.args.sessions.now (c.get_mut.follows.lender c.step_free.new.self) c.args.number (Some c.in-Some.session.now) = search rules in
    let may : may_lack c.in-Some.session.now.client ≡ true = search rules in
    lacking_back (Step c.args.number) c.args.sessions.now (c.get_mut.follows.lender c.step_free.new.self) c.args.number c.in-Some.session.now (Refused Memory) refl (free_lacks c.args.sessions.now c.args.number c.in-Some.session.now one may) one put
