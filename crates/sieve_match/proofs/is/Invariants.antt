use Rattle.std.proofs.Common.{◌≡◌, ℕ, ◌-◌, ◌<◌, ◌≤◌, get_or}
use Rattle.sieve_match.proofs.is.Given as goal

abbrev pub invariant-loop-i : goal.invariant-loop-i
invariant-loop-i g l = record {
  within : l.i ≤ l.n;
  same : (k : ℕ) → k < l.i → g.C.Comparator.image_of (get_or l.key k 0) ≡ g.C.Comparator.image_of (get_or l.value k 0);
}

abbrev pub decreases-loop-i : goal.decreases-loop-i
decreases-loop-i g l = l.n - l.i
