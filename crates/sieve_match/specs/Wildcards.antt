-- What the wildcards of a segment take, which stands at a place of a value.
use Rattle.std.specs.Prelude.{◌↔◌, ℕ, ◌+◌, ◌<◌, ◌≤◌, List, [], ◌∷◌, drop, slice_index}
use Rattle.sieve_match.specs.Glob.{Glob}
use Rattle.sieve_match.specs.Segments.{ItemsStandAt}
use Rattle.sieve_match.specs.declared.pattern.GlobItem.{GlobItem}
use Rattle.sieve_match.specs.declared.pattern.GlobItem.TheVariants.{Star, One, Exact}

-- the octets that each `?` before the first star takes, if the items stand at a place of the value
unfoldable pub octets_taken : List GlobItem → List ℕ → ℕ → List (List ℕ)
octets_taken [] value place = []
octets_taken (Star ∷ rest) value place = []
octets_taken (One ∷ rest) value place = (slice_index value place ∷ []) ∷ octets_taken rest value (place + 1)
octets_taken (Exact octet ∷ rest) value place = octets_taken rest value (place + 1)

-- a star that begins at `from` ends at a place where the `count` items after it stand, before which they match from none
pub record EndsStar (image : ℕ → ℕ) (is : List GlobItem) (count : ℕ) (value : List ℕ) (from place : ℕ) : Type 0 where
  pub low : from ≤ place
  pub stands : ItemsStandAt image is count value place
  pub before : (j : ℕ) → from ≤ j → j < place → Glob image is (drop j value) → ⊥
  pub same : Glob image (Star ∷ is) (drop from value) ↔ Glob image (drop count is) (drop (place + count) value)
