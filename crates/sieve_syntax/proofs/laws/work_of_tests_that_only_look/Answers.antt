use Rattle.sieve_syntax.proofs.LookingLemmas.{work_looking}
use Rattle.sieve_syntax.proofs.laws.work_of_tests_that_only_look.Goals as goal

pub returns : goal.returns
returns c = work_looking
