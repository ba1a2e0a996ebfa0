-- The table of the version.
use Rattle.std.specs.Prelude.{◌≡◌, ℕ, ℤ, pos, List, [], ◌∷◌, filter, map, codes, Vec, IsPermutation}
use Rattle.std.specs.declared.alloc.Global.{Global}
use Rattle.sqlite_schema.specs.declared.schema.Kind.TheVariants.{Integer, Text}
use Rattle.sqlite_schema.specs.declared.schema.Table.{Table}
use Rattle.sqlite_value.specs.declared.value.Value.TheVariants as value
use Rattle.sqlite_value.specs.Order.{Row, column}
use Rattle.sqlite_trees.specs.Tree.{Trees}
use Rattle.store_tables.specs.Forms.{needed, keyed}
use Rattle.store_tables.specs.Rows.{has_key_from}

-- the number of the table's tree
abbrev pub meta_tree : ℕ
meta_tree = 0

-- the index of the number in a row with its rowid
abbrev pub stored_value_column : ℕ
stored_value_column = 2

abbrev pub meta : Table
meta = keyed (codes "meta") meta_tree (1 ∷ []) [] (needed (codes "item") Text ∷ needed (codes "value") Integer ∷ [])

abbrev pub create_meta : List ℕ
create_meta = codes "CREATE TABLE meta (item TEXT NOT NULL PRIMARY KEY, value INTEGER NOT NULL) STRICT"

abbrev pub insert_version : List ℕ
insert_version = codes "INSERT INTO meta (item, value) VALUES ('version', 3)"

abbrev pub select_version : List ℕ
select_version = codes "SELECT value FROM meta WHERE item = ?1"

-- the key of the row of the version
abbrev pub version_key : Row
version_key = value.Text (codes "version") ∷ []

-- the row of version 3
abbrev pub version_row : Row
version_row = value.Text (codes "version") ∷ value.Int (pos 3) ∷ []

-- the rows of the version, each with its rowid
abbrev pub version_rows : Trees → List Row
version_rows trees = filter (has_key_from 1 version_key) (trees meta_tree)

-- there is one row, and it begins with the number
abbrev pub HoldsVersion : ℤ → List Row → Type 0
HoldsVersion n rows = (row : Row) × (rows ≡ row ∷ []) × (column row 0 ≡ value.Int n)

-- the rows are the numbers of the version, in any order
abbrev pub AreVersions : Trees → Vec Row Global → Type 0
AreVersions trees rows = IsPermutation (map (λ row. column row stored_value_column ∷ []) (version_rows trees)) rows.items
