use Rattle.sieve_match.proofs.NumberLemmas.{told_equal}
use Rattle.sieve_match.proofs.numeric.are_equal_numbers.Goals as goal

pub returns : goal.returns
returns c = rw c.is_eq.ensures (told_equal c.args.one.now c.args.other.now c.compare_numbers.result c.compare_numbers.ensures)
