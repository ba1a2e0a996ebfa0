use Rattle.std.proofs.Common.{ap, sym, ◌∙◌}
use Rattle.octets.proofs.Lists.{some_is}
use Rattle.sieve_syntax.specs.RunState.{at_first}
use Rattle.sieve_syntax.specs.Meaning.{asking_at}
use Rattle.sieve_code.specs.Jumps.{outcome_of}
use Rattle.sieve_exec.specs.Outcomes.{outcome_at}
use Rattle.sieve_exec.specs.Truth.{truth_at}
use Rattle.sieve_exec.specs.Work.{work_at}
use Rattle.sieve_plan.proofs.outcome.evaluate_script.Goals as goal

pub returns-clause-done : goal.returns-clause-done
returns-clause-done c tree means =
    some_is _ _ (c.in_ok-run_code.ensures ∙ ap outcome_of (c.in_ok-code.ensures.is_code (asking_at (truth_at c.args.mail.now)) (work_at c.args.mail.now) at_first))
    ∙ ap (outcome_at c.args.mail.now) (sym (c.in_ok-checked.ensures.only tree means))
