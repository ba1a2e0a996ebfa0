-- The items of a pattern up to the first star, and where they match in a value.
use Rattle.std.specs.Prelude.{◌≡◌, ◌==◌, ℕ, Bool, true, false, zero, suc, ◌+◌, ◌<◌, ◌≤◌, List, [], ◌∷◌, length, slice_index, slice_index_or}
use Rattle.sieve_match.specs.declared.pattern.GlobItem.{GlobItem}
use Rattle.sieve_match.specs.declared.pattern.GlobItem.TheVariants.{Star, One, Exact}
use Rattle.sieve_match.specs.declared.pattern.TheConstants.{ANY_RUN, ANY_OCTET}

-- how many items come before the first star
unfoldable pub segment_len : List GlobItem → ℕ
segment_len [] = zero
segment_len (Star ∷ rest) = zero
segment_len (One ∷ rest) = suc (segment_len rest)
segment_len (Exact octet ∷ rest) = suc (segment_len rest)

-- the octet of an item
abbrev pub item_octet : GlobItem → ℕ
item_octet Star = ANY_RUN
item_octet One = ANY_OCTET
item_octet (Exact octet) = octet

-- the item takes an octet
unfoldable pub TakesOctet : (ℕ → ℕ) → GlobItem → ℕ → Type 0
TakesOctet image Star x = ⊥
TakesOctet image One x = Unit {0}
TakesOctet image (Exact octet) x = image octet ≡ image x

-- whether the item takes an octet
abbrev pub takes : (ℕ → ℕ) → GlobItem → ℕ → Bool
takes image Star x = false
takes image One x = true
takes image (Exact octet) x = image octet == image x

-- whether the item at an index takes an octet
abbrev pub item_takes_at : (ℕ → ℕ) → List GlobItem → ℕ → ℕ → Bool
item_takes_at image is j x = takes image (slice_index_or is j Star) x

-- the first `count` items take the octets of the value from a place on
pub record ItemsStandAt (image : ℕ → ℕ) (is : List GlobItem) (count : ℕ) (value : List ℕ) (place : ℕ) : Type 0 where
  pub fits : place + count ≤ length value
  pub takes : (j : ℕ) → j < count → TakesOctet image (slice_index_or is j Star) (slice_index value (place + j))
