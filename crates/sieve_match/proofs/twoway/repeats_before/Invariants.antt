use Rattle.std.proofs.Common.{◌-◌, ◌≡◌, ℕ, ◌+◌, ◌<◌, ◌≤◌}
use Rattle.sieve_match.specs.Search.{image_at}
use Rattle.sieve_match.proofs.twoway.repeats_before.Given as goal

abbrev pub invariant-loop-front : goal.invariant-loop-front
invariant-loop-front g l = record {
  front : g.K.Key.is_spot l.key l.front;
  later : g.K.Key.is_spot l.key l.later;
  apart : l.later.index ≡ l.front.index + l.fn.back.index;
  within : l.front.index ≤ l.critical;
  same : (k : ℕ) → k < l.front.index
      → image_at g.C.Comparator.image_of (g.K.Key.octet_at l.key) k ≡ image_at g.C.Comparator.image_of (g.K.Key.octet_at l.key) (k + l.fn.back.index);
  cost : l.steps ≡ l.fn.steps + l.front.index;
}

abbrev pub decreases-loop-front : goal.decreases-loop-front
decreases-loop-front g l = l.critical - l.front.index
