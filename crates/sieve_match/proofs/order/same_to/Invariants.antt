use Rattle.std.proofs.Common.{◌≡◌, ℕ, ◌-◌, ◌<◌, ◌≤◌, get_or}
use Rattle.sieve_match.proofs.order.same_to.Given as goal

abbrev pub invariant-loop-place : goal.invariant-loop-place
invariant-loop-place g l = record {
  within : l.place ≤ l.end;
  same : (k : ℕ) → k < l.place → g.C.Comparator.image_of (get_or l.one k 0) ≡ g.C.Comparator.image_of (get_or l.other k 0);
}

abbrev pub decreases-loop-place : goal.decreases-loop-place
decreases-loop-place g l = l.end - l.place
