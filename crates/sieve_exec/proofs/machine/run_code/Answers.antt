use Rattle.std.proofs.Common.{Some, ap, sym, ◌∙◌}
use Rattle.sieve_syntax.specs.Meaning.{asking_at}
use Rattle.sieve_exec.specs.Truth.{truth_at}
use Rattle.sieve_exec.specs.Work.{work_at}
use Rattle.sieve_exec.specs.declared.machine.RunEnd.{RunEnd}
use Rattle.sieve_exec.specs.Runs.{run_end_view}
use Rattle.sieve_exec.proofs.MachineLemmas.{outcome_by_end, comes_to, over_so}
use Rattle.sieve_exec.proofs.machine.run_code.Goals as goal

pub returns-in-Ended : goal.returns-in-Ended
returns-in-Ended c =
    let comes = comes_to (asking_at (truth_at c.args.mail.now)) (work_at c.args.mail.now) c.args.code.now _ _ c.in_ok-state.ensures c.new.ensures in
    over_so _ _ _ (comes ∙ ap (λ (end : RunEnd). Some (outcome_by_end (run_end_view end))) c.in-Ended.is) c.finish.ensures

pub returns-in-Failed : goal.returns-in-Failed
returns-in-Failed c =
    let comes = comes_to (asking_at (truth_at c.args.mail.now)) (work_at c.args.mail.now) c.args.code.now _ _ c.in_ok-state.ensures c.new.ensures in
    sym (comes ∙ ap (λ (end : RunEnd). Some (outcome_by_end (run_end_view end))) c.in-Failed.is)
