-- Whose turn it is to hold the store.
use Rattle.std.specs.Prelude.{◌≡◌, ◌⊎◌, ℕ, ◌-◌, ◌==◌, ◌||◌, nat_lt, not, Bool, true, false, if◌then◌else◌, List, [], ◌∷◌, ◌++◌, find, Option, Some, None}
use Rattle.std.specs.List.{list_any}
use Rattle.std.specs.Ordering.{nat_cmp}
use Rattle.std.specs.BTreeMap as tree

-- one that didn't ask for this many milliseconds holds up nobody
abbrev pub patience : ℕ
patience = 100

abbrev pub asked_of_late : ℕ → Option ℕ → Bool
asked_of_late now None = false
asked_of_late now (Some moment) = nat_lt (now - moment) patience

-- one of those who wait asked of late, or is the one that asks now
abbrev pub asks : ℕ → ℕ → tree.BTreeMap ℕ ℕ → ℕ → Bool
asks id now asked other = if other == id then true else asked_of_late now (tree.get nat_cmp asked other)

abbrev pub is_first : ℕ → Option ℕ → Bool
is_first id None = true
is_first id (Some first) = first == id

-- the same, and its account used little recently
abbrev pub asks_early : (ℕ → Bool) → ℕ → ℕ → tree.BTreeMap ℕ ℕ → ℕ → Bool
asks_early late id now asked other = if late other then false else asks id now asked other

-- by the first of those who ask whose account used little: it is that one; if there is none, its account used little, or of all it came
-- first
abbrev pub is_next : Bool → ℕ → Option ℕ → Option ℕ → Bool
is_next late id (Some early) first = early == id
is_next late id None first = is_first id first || not late

-- of those who ask it came first of those whose account used little, or of all if there is none of these
abbrev pub comes_next : (ℕ → Bool) → ℕ → ℕ → List ℕ → tree.BTreeMap ℕ ℕ → Bool
comes_next late id now ids asked = is_next (late id) id (find (asks_early late id now asked) ids) (find (asks id now asked) ids)

-- one that waits has its place, or the last one; none if memory was lacking
abbrev pub Joins : ℕ → List ℕ → List ℕ → Type 0
Joins id ids later =
    (later ≡ (if list_any (λ n. n == id) ids then ids else ids ++ id ∷ [])) ⊎ (later ≡ ids)

-- when it asked is known, and all else stays; nothing changes if memory was lacking
abbrev pub NotesAsking : ℕ → ℕ → tree.BTreeMap ℕ ℕ → tree.BTreeMap ℕ ℕ → Type 0
NotesAsking id now asked later = tree.Updates nat_cmp asked later id (Some now) ⊎ tree.IsUnchanged asked later
