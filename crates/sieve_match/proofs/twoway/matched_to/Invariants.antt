use Rattle.std.proofs.Common.{◌-◌, ◌≡◌, ℕ, ◌+◌, ◌<◌, ◌≤◌, max}
use Rattle.sieve_match.specs.Search.{image_at, image_in}
use Rattle.sieve_match.proofs.twoway.matched_to.Given as goal

abbrev pub invariant-loop-spot : goal.invariant-loop-spot
invariant-loop-spot g l = record {
  spot : g.K.Key.is_spot l.key l.spot;
  low : l.fn.from.index ≤ l.spot.index;
  high : l.spot.index ≤ max l.end l.fn.from.index;
  cost : l.steps + l.fn.from.index ≡ l.fn.steps + l.spot.index;
  same : (k : ℕ) → l.fn.from.index ≤ k → k < l.spot.index
      → image_at g.C.Comparator.image_of (g.K.Key.octet_at l.key) k ≡ image_in g.C.Comparator.image_of l.value (l.pos + k);
}

abbrev pub decreases-loop-spot : goal.decreases-loop-spot
decreases-loop-spot g l = l.end - l.spot.index
