use Rattle.std.proofs.Common.{◌-◌, ◌*◌, ◌≡◌, ◌+◌, ◌≤◌}
use Rattle.memchr.proofs.lemmas.SuffixLemmas.{IsScan}
use Rattle.sieve_match.specs.Search.{image_at, Precedes}
use Rattle.sieve_match.proofs.twoway.greatest_suffix.Given as goal

abbrev pub invariant-loop-other : goal.invariant-loop-other
invariant-loop-other g l = record {
  best : g.K.Key.is_spot l.key l.best;
  candidate : g.K.Key.is_spot l.key l.candidate;
  current : g.K.Key.is_spot l.key l.current;
  other : g.K.Key.is_spot l.key l.other;
  ordered : l.candidate.index ≤ l.other.index;
  abreast : l.current.index + l.candidate.index ≡ l.best.index + l.other.index;
  scan : IsScan (Precedes l.order) (image_at g.C.Comparator.image_of (g.K.Key.octet_at l.key)) (g.K.Key.size l.key)
      l.best.index l.period l.candidate.index (l.other.index - l.candidate.index);
  cost : l.steps + 1 ≤ l.fn.steps + l.best.index + l.other.index;
  all : l.fn.steps + l.other.index ≤ l.steps + 1;
}

abbrev pub decreases-loop-other : goal.decreases-loop-other
decreases-loop-other g l = 2 * g.K.Key.size l.key + 1 - (l.best.index + l.other.index)
