use Rattle.sieve_exec.proofs.FrontLemmas.{by_fields_and_size}
use Rattle.sieve_exec.proofs.laws.outcome_by_fields_and_size.Goals as goal

pub returns : goal.returns
returns c one other envelope when tree = by_fields_and_size envelope when tree one other
