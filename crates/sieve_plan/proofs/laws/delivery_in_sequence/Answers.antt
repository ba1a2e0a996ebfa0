use Rattle.sieve_plan.proofs.SequenceLaws.{one_delivery_in_sequence}
use Rattle.sieve_plan.proofs.laws.delivery_in_sequence.Goals as goal

pub returns : goal.returns
returns c = one_delivery_in_sequence
