-- Lines, which end at LF and nowhere else, and their fields, which end at TAB.
use Rattle.std.specs.Prelude.{◌≡◌, ◌≢◌, ℕ, List, [], ◌∷◌, ◌++◌, Option, Some, None}

-- a number isn't among others
abbrev pub HasNone : ℕ → List ℕ → Type 0
HasNone mark [] = Unit {0}
HasNone mark (other ∷ rest) = (other ≢ mark) × HasNone mark rest

-- a mark, with what follows it; nothing if there is none
abbrev pub from_mark : ℕ → Option (List ℕ) → List ℕ
from_mark mark None = []
from_mark mark (Some rest) = mark ∷ rest

-- what stands before the first of a mark, and what follows that, if the mark is there
pub record CutsAt (mark : ℕ) (all front : List ℕ) (rest : Option (List ℕ)) : Type 0 where
  pub none : HasNone mark front
  pub written : all ≡ front ++ from_mark mark rest

-- TAB
abbrev pub field_end : ℕ
field_end = 9

-- LF
abbrev pub userdb_line_end : ℕ
userdb_line_end = 10

-- lines, each with its LF
abbrev pub lines_written : List (List ℕ) → List ℕ
lines_written [] = []
lines_written (line ∷ lines) = line ++ (userdb_line_end ∷ lines_written lines)

-- each is a line
abbrev pub AreUserdbLines : List (List ℕ) → Type 0
AreUserdbLines [] = Unit {0}
AreUserdbLines (line ∷ lines) = HasNone userdb_line_end line × AreUserdbLines lines

-- all lines that are whole, and the beginning of one that isn't
pub record CutsLines (octets : List ℕ) (lines : List (List ℕ)) (rest : List ℕ) : Type 0 where
  pub each : AreUserdbLines lines
  pub part : HasNone userdb_line_end rest
  pub written : octets ≡ lines_written lines ++ rest
