-- The table of notices.
use Rattle.std.specs.Prelude.{ℕ, ℤ, Bool, ◌&&◌, List, [], ◌∷◌, codes}
use Rattle.sqlite_schema.specs.declared.schema.Kind.TheVariants as kind
use Rattle.sqlite_schema.specs.declared.schema.Table.{Table}
use Rattle.sqlite_value.specs.declared.value.Value.TheVariants.{Int, Blob}
use Rattle.sqlite_value.specs.Order.{Row, column}
use Rattle.store_tables.specs.Forms.{needed, keyed}
use Rattle.store_tables.specs.Rows.{has_key, at_most}
use Rattle.store_tables.specs.AccountTable.{to_account}

-- the number of the table's tree
abbrev pub notice_tree : ℕ
notice_tree = 10

abbrev pub notice : Table
notice = keyed (codes "notice") notice_tree (1 ∷ 2 ∷ []) to_account
    (needed (codes "owner") kind.Blob ∷ needed (codes "id") kind.Integer ∷ needed (codes "moment") kind.Integer ∷ needed (codes "text") kind.Blob ∷ [])

abbrev pub create_notice : List ℕ
create_notice = codes "CREATE TABLE notice (owner BLOB NOT NULL REFERENCES account (name), id INTEGER NOT NULL, moment INTEGER NOT NULL, text BLOB NOT NULL, PRIMARY KEY (owner, id)) STRICT"

abbrev pub insert_notice : List ℕ
insert_notice = codes "INSERT INTO notice (owner, id, moment, text) VALUES (?1, ?2, ?3, ?4)"

abbrev pub delete_notices : List ℕ
delete_notices = codes "DELETE FROM notice WHERE owner = ?1"

abbrev pub delete_early_notices : List ℕ
delete_early_notices = codes "DELETE FROM notice WHERE owner = ?1 AND moment <= ?2"

abbrev pub select_notices : List ℕ
select_notices = codes "SELECT moment, text FROM notice WHERE owner = ?1 ORDER BY id"

abbrev pub notice_row_cells : List ℕ → ℤ → ℤ → List ℕ → Row
notice_row_cells owner id moment text = Blob owner ∷ Int id ∷ Int moment ∷ Blob text ∷ []

abbrev pub notice_moment_column : ℕ
notice_moment_column = 2

-- the owner's notice, of this moment or before
abbrev pub is_early_notice : List ℕ → ℤ → Row → Bool
is_early_notice owner until cells = has_key (Blob owner ∷ []) cells && at_most (column cells notice_moment_column) (Int until)
