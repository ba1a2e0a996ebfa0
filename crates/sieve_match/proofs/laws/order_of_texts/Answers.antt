use Rattle.sieve_match.proofs.SortingLemmas.{before_total, before_chained, before_strict}
use Rattle.sieve_match.proofs.laws.order_of_texts.Goals as goal

pub returns : goal.returns
returns c = record { total = before_total; transitive = before_chained; strict = before_strict }
