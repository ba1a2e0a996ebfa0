use Rattle.sieve_exec.proofs.StepLemmas.{contains_within, ready_within, long_matches_within, matches_within}
use Rattle.sieve_exec.proofs.laws.steps_of_keys.Goals as goal

pub returns : goal.returns
returns c =
    record {
      long_key = λ names key. contains_within key names;
      short_key = λ names key. ready_within key names;
      long_pattern = long_matches_within;
      pattern = matches_within;
    }
