use Rattle.sieve_match.proofs.CaptureLemmas.{captures_exist, captures_match, captures_one}
use Rattle.sieve_match.proofs.laws.captures_of_a_match.Goals as goal

pub returns-clause-some : goal.returns-clause-some
returns-clause-some c = captures_exist

pub returns-clause-matching : goal.returns-clause-matching
returns-clause-matching c = captures_match

pub returns-clause-one : goal.returns-clause-one
returns-clause-one c = captures_one
