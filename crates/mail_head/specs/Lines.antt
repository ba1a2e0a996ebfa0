-- Lines and logical lines (RFC 5322, sections 2.1 and 2.2.3).
use Rattle.std.specs.Prelude.{◌≡◌, ◌≢◌, ◌⊎◌, ℕ, ◌-◌, ◌==◌, Bool, true, false, cond, ◌&&◌, not, List, [], ◌∷◌, ◌++◌, length, take, drop, slice_index}
use Rattle.std.specs.List.{list_all}
use Rattle.octets.specs.Ascii.{is_blank}

-- line feed
abbrev pub is_feed : ℕ → Bool
is_feed octet = octet == 10

-- any other octet
abbrev pub is_other : ℕ → Bool
is_other octet = not (is_feed octet)

-- a text whose only LF is its last octet
pub record IsEnded (line : List ℕ) : Type 0 where
  pub text : List ℕ
  pub spelled : line ≡ text ++ 10 ∷ []
  pub others : list_all is_other text ≡ true

-- a text that has octets and no LF
pub record IsOpen (line : List ℕ) : Type 0 where
  pub present : line ≢ []
  pub others : list_all is_other line ≡ true

-- the texts whose concatenation it is, each ending at its only LF, the last perhaps without one
abbrev pub AreLines : List (List ℕ) → List ℕ → Type 0
AreLines [] text = text ≡ []
AreLines (line ∷ more) text =
    (rest : List ℕ) × ((text ≡ line ++ rest) × ((IsEnded line ⊎ (IsOpen line × (rest ≡ []))) × AreLines more rest))

-- these lines with an octet put before the first of them
abbrev pub at_front : ℕ → List (List ℕ) → List (List ℕ)
at_front octet [] = (octet ∷ []) ∷ []
at_front octet (line ∷ more) = (octet ∷ line) ∷ more

-- the lines of a text: the one list that is in AreLines with it
abbrev pub lines_of : List ℕ → List (List ℕ)
lines_of [] = []
lines_of (octet ∷ rest) = cond (is_feed octet) ((octet ∷ []) ∷ lines_of rest) (at_front octet (lines_of rest))

-- whether a text begins with a blank
abbrev pub begins_blank : List ℕ → Bool
begins_blank [] = false
begins_blank (octet ∷ rest) = is_blank octet

-- whether the first of these lines begins with a blank
abbrev pub first_is_folded : List (List ℕ) → Bool
first_is_folded [] = false
first_is_folded (line ∷ more) = begins_blank line

-- these texts with a line put before the first of them
abbrev pub onto_first : List ℕ → List (List ℕ) → List (List ℕ)
onto_first line [] = line ∷ []
onto_first line (next ∷ more) = (line ++ next) ∷ more

-- each line with the lines after it that begin with a blank, as one text
abbrev pub logical_lines : List (List ℕ) → List (List ℕ)
logical_lines [] = []
logical_lines (line ∷ more) = cond (first_is_folded more) (onto_first line (logical_lines more)) (line ∷ logical_lines more)

-- LF or CRLF and nothing else
abbrev pub is_empty_line : List ℕ → Bool
is_empty_line [] = false
is_empty_line (octet ∷ []) = octet == 10
is_empty_line (octet ∷ next ∷ []) = octet == 13 && next == 10
is_empty_line (octet ∷ next ∷ third ∷ more) = false

-- the lines before the first empty one
abbrev pub header_lines : List (List ℕ) → List (List ℕ)
header_lines [] = []
header_lines (line ∷ more) = cond (is_empty_line line) [] (line ∷ header_lines more)

-- the lines after the first empty one
abbrev pub body_lines : List (List ℕ) → List (List ℕ)
body_lines [] = []
body_lines (line ∷ more) = cond (is_empty_line line) more (body_lines more)

-- the last octet isn't CR
abbrev pub EndsBare : List ℕ → Type 0
EndsBare text = (front : List ℕ) → text ≢ front ++ 13 ∷ []

-- the last octet isn't LF
abbrev pub IsUnended : List ℕ → Type 0
IsUnended text = (front : List ℕ) → text ≢ front ++ 10 ∷ []

-- a line's text, and its line end: CRLF, an LF without CR before it, or nothing
pub record HasEnd (line text ending : List ℕ) : Type 0 where
  pub spelled : line ≡ text ++ ending
  pub kind : (ending ≡ 13 ∷ 10 ∷ []) ⊎ (((ending ≡ 10 ∷ []) × EndsBare text) ⊎ ((ending ≡ []) × IsUnended text))

-- how many octets a line's end has: CRLF, LF, or none
abbrev pub end_len : List ℕ → ℕ
end_len line = cond (is_feed (slice_index line (length line - 1))) (cond (slice_index line (length line - 2) == 13) 2 1) 0

-- a line without its line end: the one text that is in HasEnd with it
abbrev pub without_end : List ℕ → List ℕ
without_end line = take (length line - end_len line) line

-- a line's end
abbrev pub end_of : List ℕ → List ℕ
end_of line = drop (length line - end_len line) line
