use Rattle.sieve_exec.proofs.TruthLemmas.{truth_decides}
use Rattle.sieve_exec.proofs.laws.truth_of_a_check.Goals as goal

pub returns : goal.returns
returns c mail so_far = truth_decides mail so_far.flags
