-- Texts compared by the images of their octets (RFC 4790, section 4.2).
use Rattle.std.specs.Prelude.{◌≡◌, ℕ, ◌+◌, ◌<◌, List, ◌++◌, map, slice_index}

-- the key and the value have equal lists of images
abbrev pub EqualBy : (ℕ → ℕ) → List ℕ → List ℕ → Type 0
EqualBy image key value = map image key ≡ map image value

-- with some texts before and after it the key has the value's images
abbrev pub ContainsBy : (ℕ → ℕ) → List ℕ → List ℕ → Type 0
ContainsBy image key value = (before : List ℕ) × ((after : List ℕ) × (map image value ≡ map image (before ++ key ++ after)))

-- the images of that many octets, from a place on, are the same in the key and the value
abbrev pub SameFrom : (ℕ → ℕ) → List ℕ → List ℕ → ℕ → ℕ → Type 0
SameFrom image key value from count = (k : ℕ) → k < count → image (slice_index key (from + k)) ≡ image (slice_index value (from + k))
