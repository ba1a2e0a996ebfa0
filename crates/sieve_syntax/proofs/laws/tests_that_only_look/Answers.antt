use Rattle.sieve_syntax.proofs.LookingLemmas.{outcome_looking}
use Rattle.sieve_syntax.proofs.laws.tests_that_only_look.Goals as goal

pub returns : goal.returns
returns c = outcome_looking
