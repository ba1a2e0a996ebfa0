-- What rows show of a user's scripts, and what is read of them.
use Rattle.std.specs.Prelude.{◌≡◌, ◌≢◌, ℕ, List, [], ◌∷◌, map, slice_get, Option, option_map}
use Rattle.std.specs.FinMap.{get, keys, from_entries}
use Rattle.sqlite_value.specs.declared.value.Value.TheVariants.{Blob}
use Rattle.sqlite_value.specs.Order.{Row}
use Rattle.sqlite_trees.specs.Tree.{IsAscending}
use Rattle.store_tables.specs.ScriptTable.{script_cells}
use Rattle.store_accounts.specs.Account.{Account, Scripts, other_name}

-- ---- what rows show

-- the row of a name and its text
abbrev pub script_row : List ℕ → List ℕ × List ℕ → Row
script_row user entry = script_cells user entry.0 entry.1

-- no two keys are equal
abbrev pub AreKeysApart : {K X : Type 0} → List (K × X) → Type 0
AreKeysApart = IsAscending (λ a b. a.0 ≢ b.0)

-- the rows are those of the user's scripts, in any order
pub record ShowsScripts (user : List ℕ) (rows : List Row) (scripts : Scripts) : Type 0 where
  pub entries : List (List ℕ × List ℕ)
  pub rows_are : rows ≡ map (script_row user) entries
  pub shown : scripts ≡ from_entries entries
  pub apart : AreKeysApart entries

-- ---- what is read of them

-- the first row is the text of the name's script, if there is one
abbrev pub HasTextRow : List ℕ → List Row → Account → Type 0
HasTextRow name rows a = slice_get rows 0 ≡ option_map (λ text. Blob text ∷ []) (get a.scripts name)

-- the rows are the names of the scripts, in the order of their octets
abbrev pub AreNameRows : List Row → Account → Type 0
AreNameRows rows a = rows ≡ map (λ name. Blob name ∷ []) (keys a.scripts)

-- the text of the name's script and the name of the active one, if there are any
abbrev pub HasTextAndActive : List ℕ → Option (List ℕ) × Option (List ℕ) → Account → Type 0
HasTextAndActive name both a = (both.0 ≡ get a.scripts name) × (both.1 ≡ a.active)

-- the text is the name's, if there is such a script, and the active name is what it is after that script has the other name
abbrev pub IsRenaming : List ℕ → List ℕ → Option (List ℕ) → Option (List ℕ) → Account → Type 0
IsRenaming name other text active a = (text ≡ get a.scripts name) × (active ≡ option_map (other_name name other) a.active)
