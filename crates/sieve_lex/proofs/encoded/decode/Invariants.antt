use Rattle.std.proofs.Common.{◌≡◌, ◌-◌, ◌≤◌, Some, length, drop}
use Rattle.sieve_lex.specs.Encoded.{joined_texts, decoded_after}
use Rattle.sieve_lex.proofs.encoded.decode.Given as goal

abbrev pub invariant-loop-at : goal.invariant-loop-at
invariant-loop-at l = record {
  within : l.at ≤ length l.text;
  so : joined_texts (Some l.value) (decoded_after 0 (drop l.at l.text)) ≡ decoded_after 0 l.text;
}

abbrev pub decreases-loop-at : goal.decreases-loop-at
decreases-loop-at l = length l.text - l.at
