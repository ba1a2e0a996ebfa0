-- The bits beyond the places.
use Rattle.std.specs.Prelude.{◌≡◌, ℕ, ◌<◌, ◌≤◌, List, slice_index}
use Rattle.std.specs.Int.{bit_at}

-- beyond that many places the bit of each octet is set, and no place is choosy
abbrev pub AreUnasked : List ℕ → ℕ → ℕ → Type 0
AreUnasked octets choosy len = (j : ℕ) → len ≤ j → j < 64 → (bit_at choosy j ≡ 0) × ((b : ℕ) → b < 256 → bit_at (slice_index octets b) j ≡ 1)
