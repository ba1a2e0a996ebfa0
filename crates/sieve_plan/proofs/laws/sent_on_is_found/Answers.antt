use Rattle.sieve_plan.proofs.FoundLaws.{found_again, found_by_body}
use Rattle.sieve_plan.proofs.laws.sent_on_is_found.Goals as goal

pub returns-clause-again : goal.returns-clause-again
returns-clause-again c = found_again

pub returns-clause-by_body : goal.returns-clause-by_body
returns-clause-by_body c = found_by_body
