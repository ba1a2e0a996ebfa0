-- What was read of a segment.
use Rattle.std.specs.Prelude.{◌≡◌, ℕ, ◌+◌, ◌<◌, ◌≤◌, ◌∷◌, length, drop, slice_index_or, IsTrue}
use Rattle.sieve_match.specs.declared.pattern.GlobItem.TheVariants.{Star, Exact}
use Rattle.sieve_match.specs.declared.parts.Segment.{Segment}
use Rattle.sieve_match.specs.Glob.{items}
use Rattle.sieve_match.specs.Segments.{segment_len, item_octet}

-- the segment's items are those from its start to the first star, and those of a literal segment are octets
pub record IsSegment (s : Segment) : Type 0 where
  pub from : s.from ≤ s.end
  pub end : s.end ≤ length s.pattern.now
  pub counted : s.count ≡ segment_len (items (drop s.from s.pattern.now))
  pub rest : items (drop s.end s.pattern.now) ≡ drop s.count (items (drop s.from s.pattern.now))
  pub star : s.end < length s.pattern.now → items (drop s.end s.pattern.now) ≡ Star ∷ items (drop (s.end + 1) s.pattern.now)
  pub literal : IsTrue s.literal → (j : ℕ) → j < s.count
      → slice_index_or (items (drop s.from s.pattern.now)) j Star ≡ Exact (item_octet (slice_index_or (items (drop s.from s.pattern.now)) j Star))
