use Rattle.sieve_match.proofs.NumberLemmas.{below_total, below_chained, below_strict}
use Rattle.sieve_match.proofs.laws.order_of_numbers.Goals as goal

pub returns : goal.returns
returns c = record { total = below_total; transitive = below_chained; strict = below_strict }
