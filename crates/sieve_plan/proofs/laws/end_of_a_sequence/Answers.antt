use Rattle.sieve_plan.specs.Sequences.{at_beginning}
use Rattle.sieve_plan.proofs.SequenceLaws.{failure_leaves, ran_settles, ends_there, discarded_by_user}
use Rattle.sieve_plan.proofs.laws.end_of_a_sequence.Goals as goal

pub returns-clause-failure : goal.returns-clause-failure
returns-clause-failure c = failure_leaves

pub returns-clause-last : goal.returns-clause-last
returns-clause-last c = ends_there

pub returns-clause-discarded : goal.returns-clause-discarded
returns-clause-discarded c = discarded_by_user

pub returns-clause-without : goal.returns-clause-without
returns-clause-without c = λ mail ran state run. ran_settles mail ran at_beginning state run
