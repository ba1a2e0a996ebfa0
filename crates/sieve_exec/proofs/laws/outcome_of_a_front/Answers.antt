use Rattle.sieve_exec.proofs.FrontLemmas.{of_front}
use Rattle.sieve_exec.proofs.laws.outcome_of_a_front.Goals as goal

pub returns : goal.returns
returns c front message envelope when tree = of_front envelope when tree front message
