use Rattle.sieve_match.proofs.NumberLemmas.{by_length, by_digits}
use Rattle.sieve_match.proofs.numeric.compare_digits.Goals as goal

pub returns-then-one-other : goal.returns-then-one-other
returns-then-one-other c = by_length c.args.one.now c.args.other.now c.requires.one c.requires.other c.cmp.result c.if-one-other.true c.cmp.ensures

pub returns : goal.returns
returns c = by_digits c.args.one.now c.args.other.now c.requires.one c.requires.other c.compare.result c.if-one-other.false c.compare.ensures
