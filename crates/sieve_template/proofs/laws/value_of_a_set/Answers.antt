use Rattle.sieve_template.proofs.SetLaws.{kept_whole, set_one}
use Rattle.sieve_template.proofs.laws.value_of_a_set.Goals as goal

pub returns-clause-whole : goal.returns-clause-whole
returns-clause-whole c = kept_whole

pub returns-clause-one : goal.returns-clause-one
returns-clause-one c = set_one
