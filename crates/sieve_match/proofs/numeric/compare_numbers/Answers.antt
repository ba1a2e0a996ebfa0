use Rattle.octets.specs.Decimal.{number_of}
use Rattle.sieve_match.proofs.NumberLemmas.{told_numbers, below_infinite}
use Rattle.sieve_match.proofs.numeric.compare_numbers.Goals as goal

pub returns-in-Some-plain_digits : goal.returns-in-Some-plain_digits
returns-in-Some-plain_digits c =
    told_numbers c.args.one.now c.args.other.now (number_of c.in-Some.digits.now) (number_of c.in-Some-plain_digits.others.now) c.in-Some.ensures.value c.in-Some-plain_digits.ensures.value
    c.compare_digits.result c.compare_digits.ensures

pub returns-in-None-plain_digits : goal.returns-in-None-plain_digits
returns-in-None-plain_digits c = below_infinite c.args.one.now c.args.other.now (number_of c.in-Some.digits.now) c.in-Some.ensures.value c.in-None-plain_digits.ensures.value

pub returns-in-Some-plain_digits-2 : goal.returns-in-Some-plain_digits-2
returns-in-Some-plain_digits-2 c =
    below_infinite c.args.other.now c.args.one.now (number_of c.in-Some-plain_digits-2.field-0.now) c.in-Some-plain_digits-2.ensures.value c.in-None.ensures.value
