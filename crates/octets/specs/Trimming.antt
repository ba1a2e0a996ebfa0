-- A text without the blanks at its ends.
use Rattle.std.specs.Prelude.{◌≡◌, ℕ, true, false, List, [], ◌∷◌, ◌++◌}
use Rattle.std.specs.List.{list_all}
use Rattle.octets.specs.Ascii.{is_blank}

-- blanks, a text that neither begins nor ends with one, and blanks
pub record Trims (text kept : List ℕ) : Type 0 where
  pub front : List ℕ
  pub back : List ℕ
  pub spelled : text ≡ front ++ (kept ++ back)
  pub front_blank : list_all is_blank front ≡ true
  pub back_blank : list_all is_blank back ≡ true
  pub begins : (octet : ℕ) (rest : List ℕ) → kept ≡ octet ∷ rest → is_blank octet ≡ false
  pub ends : (rest : List ℕ) (octet : ℕ) → kept ≡ rest ++ octet ∷ [] → is_blank octet ≡ false
