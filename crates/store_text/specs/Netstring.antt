-- Texts preceded by their lengths, and lines of them.
use Rattle.std.specs.Prelude.{◌≡◌, ◌<◌, ◌^◌, ◌==◌, ◌&&◌, Bool, true, not, ℕ, List, [], ◌∷◌, ◌++◌, length, decimal, nat_eq, nat_lt, Option, Some, None, cond, map}
use Rattle.std.specs.Borrow.{Bor}
use Rattle.std.specs.List.{flat_map, AllByRecursion, list_all}
use Rattle.std.specs.Cmp.Lexicographic.{pointwise}
use Rattle.octets.specs.Decimal.{number_of}

-- the text's length in decimal, a colon, the text, a comma
unfoldable pub netstring : List ℕ → List ℕ
netstring text = decimal (length text) ++ 58 ∷ (text ++ 44 ∷ [])

-- each of the fields, and LF
unfoldable pub line : List (List ℕ) → List ℕ
line fields = flat_map netstring fields ++ 10 ∷ []

-- a field has any length that memory can hold: no text there is longer
abbrev pub IsNetstringField : List ℕ → Type 0
IsNetstringField text = length text < 2 ^ 63

abbrev pub AreFields : List (List ℕ) → Type 0
AreFields = AllByRecursion IsNetstringField

-- the texts of slices
abbrev pub texts : List (Bor (List ℕ)) → List (List ℕ)
texts = map (λ f. f.now)

-- the octet isn't this mark
abbrev pub other : ℕ → ℕ → Bool
other mark octet = not (octet == mark)

-- the text is cut at its first mark
pub record CutsAtMark (mark : ℕ) (text front rest : List ℕ) : Type 0 where
  pub written : text ≡ front ++ mark ∷ rest
  pub first : list_all (other mark) front ≡ true

-- two texts are equal
abbrev pub same_text : List ℕ → List ℕ → Bool
same_text = pointwise nat_eq

-- the number below 2^63 in decimal digits without leading zeros, if they are one
unfoldable pub decimal_in : List ℕ → Option ℕ
decimal_in text = cond (nat_lt (number_of text) (2 ^ 63) && same_text text (decimal (number_of text))) (Some (number_of text)) None
