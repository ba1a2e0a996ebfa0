-- Consecutive places, each of which takes some octets, and where such octets are in a text.
use Rattle.std.specs.Prelude.{◌≡◌, ◌↔◌, ℕ, ◌+◌, ◌<◌, ◌≤◌, Bool, true, List, length, slice_index, bit_and}
use Rattle.std.specs.Int.{bit_at}
use Rattle.sieve_match.specs.declared.masks.Masks.{Masks}

-- the n octets of the text from a place on are taken by the n places, as fits says
pub record FitsAt (fits : ℕ → ℕ → Bool) (n : ℕ) (text : List ℕ) (place : ℕ) : Type 0 where
  pub within : place + n ≤ length text
  pub each : (j : ℕ) → j < n → fits j (slice_index text (place + j)) ≡ true

-- the masks are those of n places: the bits say which octets these take, as fits says
pub record AreMasks (fits : ℕ → ℕ → Bool) (n : ℕ) (masks : Masks) : Type 0 where
  pub len : masks.len ≡ n
  pub each : (b j : ℕ) → b < 256 → j < n → (bit_at (bit_and (slice_index masks.octets b) masks.choosy) j ≡ 0) ↔ (fits j b ≡ true)
