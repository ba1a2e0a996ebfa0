-- Dovecot's list of the folders that a user has subscribed: a line for each.
use Rattle.std.specs.Prelude.{ℕ, ◌==◌, ◌-◌, ◌&&◌, Bool, true, false, if◌then◌else◌, nat_eq, List, [], ◌∷◌, ◌++◌, Option, Some, None, length, map, slice_get, take}
use Rattle.std.specs.Cmp.Lexicographic.{pointwise}
use Rattle.std.specs.List.{list_any, slice_split}

-- the first line of a list of version 2, in which a tab parts the levels of a name
abbrev pub list_version : List ℕ
list_version = 86 ∷ 9 ∷ 50 ∷ 10 ∷ []

abbrev pub is_empty_list : List ℕ → Bool
is_empty_list [] = true
is_empty_list (octet ∷ rest) = false

-- an empty list becomes one of version 2
abbrev pub has_tabs : List ℕ → Bool
has_tabs list = if is_empty_list list then true else pointwise nat_eq (take 4 list) list_version

-- a dot parts the levels of a directory's name
abbrev pub level_octet : Bool → ℕ → ℕ
level_octet tabs octet = if tabs && octet == 46 then 9 else octet

-- the line of a folder whose directory is named so behind its first dot
abbrev pub subscription_line : List ℕ → List ℕ → List ℕ
subscription_line list directory = map (level_octet (has_tabs list)) directory

abbrev pub ends_a_line : ℕ → Bool
ends_a_line octet = octet == 10

abbrev pub is_same_line : List ℕ → List ℕ → Bool
is_same_line line other = pointwise nat_eq other line

abbrev pub has_line : List ℕ → List ℕ → Bool
has_line list line = list_any (is_same_line line) (slice_split ends_a_line list)

-- what stands before a new line, by the last octet
abbrev pub before_line_by : Option ℕ → List ℕ → List ℕ
before_line_by None list = 86 ∷ 9 ∷ 50 ∷ 10 ∷ 10 ∷ []
before_line_by (Some last) list = if ends_a_line last then list else list ++ 10 ∷ []

abbrev pub before_line : List ℕ → List ℕ
before_line list = before_line_by (slice_get list (length list - 1)) list

-- the list with one more folder; none if it has that already
abbrev pub with_folder : List ℕ → List ℕ → Option (List ℕ)
with_folder list directory =
    if has_line list (subscription_line list directory) then None else Some (before_line list ++ (subscription_line list directory ++ 10 ∷ []))
