-- The pieces of a date's text: words of letters, numbers, zones of a sign and digits, and marks, with gaps between them.
use Rattle.std.specs.Prelude.{◌≡◌, ℕ, ◌==◌, ◌||◌, if◌then◌else◌, Bool, true, false, List, [], ◌∷◌, ◌++◌}
use Rattle.std.specs.List.{list_all}
use Rattle.octets.specs.Ascii.{is_letter, is_digit}
use Rattle.mail_dates.specs.Gaps.{Gap, gap_before, IsDateGap, opens_gap}

-- the octet continues the piece that begins with the first one: letters follow letters, and digits follow digits or a sign
unfoldable pub goes_on : ℕ → ℕ → Bool
goes_on first octet =
    if is_letter first then is_letter octet
    else (if is_digit first || first == 43 || first == 45 then is_digit octet
    else false)

-- no piece that begins with the first octet is continued here
abbrev pub IsPieceEnd : ℕ → List ℕ → Type 0
IsPieceEnd first [] = Unit {0}
IsPieceEnd first (octet ∷ _) = goes_on first octet ≡ false

-- a piece before a text: nothing at the very end, otherwise as long as it can be
abbrev pub IsDatePieceShape : List ℕ → List ℕ → Type 0
IsDatePieceShape [] after = after ≡ []
IsDatePieceShape (first ∷ more) after = (opens_gap first ≡ false) × ((list_all (goes_on first) more ≡ true) × IsPieceEnd first after)

-- the first piece of a text, and what follows it
pub record IsDatePiece (text word after : List ℕ) : Type 0 where
  pub gap : Gap
  pub is_gap : IsDateGap gap
  pub shaped : IsDatePieceShape word after
  pub spelled : text ≡ gap_before gap (word ++ after)
