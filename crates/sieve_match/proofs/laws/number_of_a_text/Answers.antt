use Rattle.sieve_match.proofs.NumberLemmas.{stands_iff}
use Rattle.sieve_match.proofs.laws.number_of_a_text.Goals as goal

pub returns : goal.returns
returns c = stands_iff
