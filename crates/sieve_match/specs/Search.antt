-- What the search for a key by Two-Way keeps of the key, and where the key is in a value.
use Rattle.std.specs.Prelude.{◌≡◌, ◌≢◌, ◌==◌, ℕ, Bool, ◌⊎◌, ◌+◌, ◌<◌, ◌≤◌, List, Option, length, slice_index}
use Rattle.memchr.specs.Critical.{IsCritical, NoPeriodBelow}
use Rattle.memchr.specs.Find.{IsFirst}
use Rattle.memchr.specs.TwoWay.{OccursIn}
use Rattle.sieve_match.specs.declared.twoway.Order.{Order}
use Rattle.sieve_match.specs.declared.twoway.Order.TheVariants.{Rising, Falling}
use Rattle.sieve_match.specs.declared.twoway.Cut.{Cut}

-- the image of the octet at an index
abbrev pub image_at : (ℕ → ℕ) → (ℕ → ℕ) → ℕ → ℕ
image_at image octet_at k = image (octet_at k)

-- the image of the octet at a place of a text
abbrev pub image_in : (ℕ → ℕ) → List ℕ → ℕ → ℕ
image_in image text k = image (slice_index text k)

-- the octet at a place has this image
abbrev pub HasImage : (ℕ → ℕ) → ℕ → List ℕ → ℕ → Type 0
HasImage image wanted text k = image_in image text k ≡ wanted

-- which octets the places of a key take: those with the image of its octet
abbrev pub fits_key : (ℕ → ℕ) → (ℕ → ℕ) → ℕ → ℕ → Bool
fits_key image octet_at j octet = image_at image octet_at j == image octet

-- a place from `from` on and no further than `end`, before which, from `from` on, no octet has an image
pub record GoesPast (image : ℕ → ℕ) (text : List ℕ) (from end wanted place : ℕ) : Type 0 where
  pub low : from ≤ place
  pub high : place ≤ end
  pub passed : (k : ℕ) → from ≤ k → k < place → image_in image text k ≢ wanted

-- the images of the key's m octets are those of the value's octets from a place on
abbrev pub StandsAt : (ℕ → ℕ) → (ℕ → ℕ) → ℕ → List ℕ → ℕ → Type 0
StandsAt image octet_at m value place = OccursIn (image_at image octet_at) m (image_in image value) (length value) place

-- r is the first place from `from` on at which the key's images are, or there is none
abbrev pub FindsKey : (ℕ → ℕ) → (ℕ → ℕ) → ℕ → List ℕ → ℕ → Option ℕ → Type 0
FindsKey image octet_at m value from r = IsFirst (StandsAt image octet_at m value) from (length value + 1) r

-- which of two octets comes before the other in an order
unfoldable pub Precedes : Order → ℕ → ℕ → Type 0
Precedes Rising a b = a < b
Precedes Falling a b = b < a

-- a key of m octets is cut at a critical position, has no period below the shift, and what is kept is repeated after the
-- shift. A shift reaches past what was compared right of the cut, and is as long as what is left of it
pub record IsKeyCut (x : ℕ → ℕ) (m : ℕ) (cut : Cut) : Type 0 where
  pub below : cut.critical.index < m
  pub critical : IsCritical x m cut.critical.index
  pub moves : 0 < cut.shift
  pub room : cut.shift + cut.keep.index ≤ m
  pub short : NoPeriodBelow x m cut.shift
  pub after : (k : ℕ) → k < cut.keep.index → cut.critical.index ≤ k + cut.shift
  pub repeats : (k : ℕ) → k < cut.keep.index → x k ≡ x (k + cut.shift)
  pub reaches : (m ≤ cut.shift + cut.critical.index) ⊎ (m ≤ cut.shift + cut.keep.index)
  pub left : cut.critical.index ≤ cut.shift
