use Rattle.sieve_match.proofs.NumberLemmas.{digits_all}
use Rattle.sieve_match.proofs.numeric.plain_digits.Goals as goal

pub without_zeros-requires : goal.without_zeros-requires
without_zeros-requires c = rw c.leading_digits-digits.ensures (digits_all c.args.text.now)
