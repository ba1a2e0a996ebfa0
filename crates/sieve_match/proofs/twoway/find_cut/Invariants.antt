use Rattle.std.proofs.Common.{◌-◌, ◌*◌, ◌≡◌, ℕ, ◌+◌, ◌<◌, ◌≤◌, max, length}
use Rattle.memchr.specs.Find.{Nowhere}
use Rattle.sieve_match.specs.Search.{image_at, image_in, StandsAt}
use Rattle.sieve_match.proofs.twoway.find_cut.Given as goal

abbrev pub invariant-loop-pos : goal.invariant-loop-pos
invariant-loop-pos g l = record {
  low : l.from ≤ l.pos;
  high : l.pos ≤ length l.value;
  before : Nowhere (StandsAt g.C.Comparator.image_of (g.K.Key.octet_at l.key) (g.K.Key.size l.key) l.value) l.from l.pos;
  spot : g.K.Key.is_spot l.key l.known;
  short : l.known.index < g.K.Key.size l.key;
  same : (k : ℕ) → k < l.known.index
      → image_at g.C.Comparator.image_of (g.K.Key.octet_at l.key) k ≡ image_in g.C.Comparator.image_of l.value (l.pos + k);
  cost : l.steps + 4 * l.from + l.cut.critical.index ≤ l.fn.steps + 4 * l.pos + max l.cut.critical.index l.known.index;
}

abbrev pub decreases-loop-pos : goal.decreases-loop-pos
decreases-loop-pos g l = length l.value - l.pos
