-- The order of texts by the images of their octets (RFC 4790, 9.2.1 and 9.3.1): octet by octet, and then the shorter one first.
use Rattle.std.specs.Prelude.{◌≡◌, ℕ, ◌<◌, List, [], ◌∷◌, ◌++◌, map}

-- at their beginnings one is less than the other: it has ended, or its first image is the lesser one
abbrev pub IsLess : List ℕ → List ℕ → Type 0
IsLess [] [] = ⊥
IsLess [] (other ∷ others) = Unit {0}
IsLess (one ∷ more) [] = ⊥
IsLess (one ∷ more) (other ∷ others) = one < other

-- a text comes before another: their images begin alike, and where they first differ those of the one are less
pub record ComesBefore (image : ℕ → ℕ) (one other : List ℕ) : Type 0 where
  pub front : List ℕ
  pub rest : List ℕ
  pub rest_of_other : List ℕ
  pub begins : map image one ≡ front ++ rest
  pub other_begins : map image other ≡ front ++ rest_of_other
  pub less : IsLess rest rest_of_other
