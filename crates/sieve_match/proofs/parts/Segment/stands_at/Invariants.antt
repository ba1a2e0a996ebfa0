use Rattle.std.proofs.Common.{◌≡◌, ℕ, ◌+◌, ◌<◌, drop, slice_index_or, slice_index}
use Rattle.sieve_match.specs.Glob.{items}
use Rattle.sieve_match.specs.Segments.{TakesOctet}
use Rattle.sieve_match.specs.declared.pattern.GlobItem.TheVariants.{Star}
use Rattle.sieve_match.proofs.parts.Segment.stands_at.Given as goal

abbrev pub invariant-loop-j : goal.invariant-loop-j
invariant-loop-j g l = record {
  cursor : items (drop l.place l.self.pattern.now) ≡ drop l.j (items (drop l.self.from l.self.pattern.now));
  same : (k : ℕ) → k < l.j
      → TakesOctet g.C.Comparator.image_of (slice_index_or (items (drop l.self.from l.self.pattern.now)) k Star) (slice_index l.value (l.at + k));
  cost : l.steps ≡ l.fn.steps + l.j;
}
