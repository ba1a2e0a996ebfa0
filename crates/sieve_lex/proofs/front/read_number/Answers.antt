use Rattle.std.proofs.Common.{arith}
use Rattle.std.proofs.lemmas.List.Sums.{prefix_len-le-length}
use Rattle.octets.specs.Ascii.{is_digit}
use Rattle.sieve_lex.proofs.Numbered.{number_found, number_none}
use Rattle.sieve_lex.proofs.front.read_number.Goals as goal

pub split_at-requires : goal.split_at-requires
split_at-requires c = omega (arith, prefix_len-le-length is_digit c.args.octets.now)

pub returns-in-Some-clause-found : goal.returns-in-Some-clause-found
returns-in-Some-clause-found c =
    number_found _ _ _ _ _ _ _ c.requires c.digit_count.ensures c.split_at.ensures.front c.split_at.ensures.back c.split_at.ensures.front_len
    c.multiplier-factor.ensures.len c.multiplier-factor.ensures.within c.multiplier-factor.ensures.factor c.in-Some.ensures.0 c.in-Some.ensures.1

pub returns-in-None-clause-found : goal.returns-in-None-clause-found
returns-in-None-clause-found c =
    number_none _ _ _ _ _ _ c.requires c.digit_count.ensures c.split_at.ensures.front c.split_at.ensures.back
    c.multiplier-factor.ensures.len c.multiplier-factor.ensures.within c.multiplier-factor.ensures.factor c.in-None.ensures
