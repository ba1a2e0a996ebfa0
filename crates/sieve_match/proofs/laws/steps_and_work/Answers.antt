use Rattle.sieve_match.proofs.Units.{long_key_within, key_within, long_pattern_within, pattern_within}
use Rattle.sieve_match.proofs.laws.steps_and_work.Goals as goal

pub returns : goal.returns
returns c = record { long_key = long_key_within; key = key_within; long_pattern = long_pattern_within; pattern = pattern_within }
