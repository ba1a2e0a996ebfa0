-- A line: `sieved: WORD NAME=VALUE NAME=VALUE ..`, and LF.
use Rattle.std.specs.Prelude.{◌≡◌, ℕ, Bool, true, ◌&&◌, List, [], ◌∷◌, ◌++◌, map, codes}
use Rattle.std.specs.List.{list_all, AllPass}
use Rattle.daemon_log.specs.Values.{is_between, is_octet, is_visible, spelled}

-- a name, and its value
pub record Pair : Type 0 where
  pub name : List ℕ
  pub value : List ℕ

abbrev pub pair : List ℕ → List ℕ → Pair
pair name value = record { name = name; value = value }

-- a blank, the name, `=` and the value
abbrev pub pair_text : List ℕ → List ℕ → List ℕ
pair_text name value = 32 ∷ (name ++ 61 ∷ spelled value)

abbrev pub line_start : List ℕ → List ℕ
line_start word = codes "sieved: " ++ word

-- a line with these pairs appended one by one
abbrev pub with_pairs : List ℕ → List Pair → List ℕ
with_pairs front [] = front
with_pairs front (p ∷ pairs) = with_pairs (front ++ pair_text p.name p.value) pairs

-- the line of a word and pairs
abbrev pub log_line_of : List ℕ → List Pair → List ℕ
log_line_of word pairs = with_pairs (line_start word) pairs ++ 10 ∷ []

abbrev pub names_of : List Pair → List (List ℕ)
names_of [] = []
names_of (p ∷ pairs) = p.name ∷ names_of pairs

-- the names are visible, and the values are octets
abbrev pub are_right : List Pair → Bool
are_right [] = true
are_right (p ∷ pairs) = list_all is_visible p.name && (list_all is_octet p.value && are_right pairs)

-- visible, or SP
abbrev pub is_printed : ℕ → Bool
is_printed octet = is_between 32 126 octet

-- a text without LF and without any other control octet, and then LF
abbrev pub IsOneLine : List ℕ → Type 0
IsOneLine line = (text : List ℕ) × (line ≡ text ++ 10 ∷ []) × (list_all is_printed text ≡ true)
