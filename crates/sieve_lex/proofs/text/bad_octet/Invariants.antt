use Rattle.std.proofs.Common.{◌≡◌, ℕ, ◌+◌, ◌-◌, ◌<◌, ◌≤◌, length, get_or}
use Rattle.sieve_lex.proofs.text.bad_octet.Given as goal

abbrev pub invariant-loop-at : goal.invariant-loop-at
invariant-loop-at l = record {
  within : l.at ≤ length l.text;
  no_nul : (k : ℕ) → k < l.at → get_or l.text k 0 ≡ 0 → ⊥;
  no_lone_cr : (k : ℕ) → k < l.at → get_or l.text k 0 ≡ 13 → get_or l.text (k + 1) 0 ≡ 10;
}

abbrev pub decreases-loop-at : goal.decreases-loop-at
decreases-loop-at l = length l.text - l.at
