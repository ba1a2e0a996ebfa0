-- The table of scripts.
use Rattle.std.specs.Prelude.{ℕ, List, [], ◌∷◌, codes}
use Rattle.sqlite_schema.specs.declared.schema.Kind.TheVariants as kind
use Rattle.sqlite_schema.specs.declared.schema.Table.{Table}
use Rattle.sqlite_value.specs.declared.value.Value.TheVariants.{Blob}
use Rattle.sqlite_value.specs.Order.{Row}
use Rattle.store_tables.specs.Forms.{needed, keyed}
use Rattle.store_tables.specs.AccountTable.{to_account}

-- the number of the table's tree
abbrev pub scripts_tree : ℕ
scripts_tree = 4

abbrev pub text_column : ℕ
text_column = 2

abbrev pub script : Table
script = keyed (codes "script") scripts_tree (1 ∷ 2 ∷ []) to_account (needed (codes "owner") kind.Blob ∷ needed (codes "name") kind.Blob ∷ needed (codes "text") kind.Blob ∷ [])

-- ---- its statements

abbrev pub create_script : List ℕ
create_script = codes "CREATE TABLE script (owner BLOB NOT NULL REFERENCES account (name), name BLOB NOT NULL, text BLOB NOT NULL, PRIMARY KEY (owner, name)) STRICT"

abbrev pub insert_script : List ℕ
insert_script = codes "INSERT INTO script (owner, name, text) VALUES (?1, ?2, ?3)"

abbrev pub delete_script : List ℕ
delete_script = codes "DELETE FROM script WHERE owner = ?1 AND name = ?2"

abbrev pub delete_scripts : List ℕ
delete_scripts = codes "DELETE FROM script WHERE owner = ?1"

abbrev pub select_names : List ℕ
select_names = codes "SELECT name FROM script WHERE owner = ?1 ORDER BY name"

abbrev pub select_script : List ℕ
select_script = codes "SELECT text FROM script WHERE owner = ?1 AND name = ?2"

-- ---- its rows

abbrev pub script_cells : List ℕ → List ℕ → List ℕ → Row
script_cells owner name text = Blob owner ∷ Blob name ∷ Blob text ∷ []
