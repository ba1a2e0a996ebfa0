use Rattle.sieve_plan.proofs.SequenceLaws.{without_host}
use Rattle.sieve_plan.proofs.laws.delivery_without_host_scripts.Goals as goal

pub returns : goal.returns
returns c = without_host
