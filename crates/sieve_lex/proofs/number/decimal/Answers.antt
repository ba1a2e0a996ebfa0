use Rattle.std.proofs.Common.{◌+◌, arith}
use Rattle.std.proofs.lemmas.List.Sums.{fold_more}
use Rattle.octets.specs.Decimal.{with_digit}
use Rattle.sieve_lex.proofs.Digits.{number_of-front}
use Rattle.sieve_lex.proofs.number.decimal.Goals as goal

pub returns-then-value-digit : goal.returns-then-value-digit
returns-then-value-digit c =
    omega (arith, number_of-front (c.loop-octet.octet-index + 1) c.args.digits.now, fold_more with_digit 0 c.args.digits.now c.loop-octet.octet-index 0 c.loop-octet-test.true)
