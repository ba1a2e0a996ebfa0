-- The table of the messages in folders: each is stored once.
use Rattle.std.specs.Prelude.{ℕ, ℤ, List, [], ◌∷◌, codes}
use Rattle.sqlite_schema.specs.declared.schema.Kind.TheVariants as kind
use Rattle.sqlite_schema.specs.declared.schema.Table.{Table}
use Rattle.sqlite_value.specs.declared.value.Value.TheVariants.{Int, Blob}
use Rattle.sqlite_value.specs.Order.{Row}
use Rattle.store_tables.specs.Forms.{needed, keyed}
use Rattle.store_tables.specs.AccountTable.{to_account}

-- the number of the table's tree
abbrev pub message_tree : ℕ
message_tree = 12

-- ---- the columns

abbrev pub message_id_column : ℕ
message_id_column = 1

abbrev pub bytes_column : ℕ
bytes_column = 2

abbrev pub message : Table
message = keyed (codes "message") message_tree (1 ∷ 2 ∷ []) to_account (needed (codes "owner") kind.Blob ∷ needed (codes "id") kind.Integer ∷ needed (codes "bytes") kind.Blob ∷ [])

-- ---- its statements

abbrev pub create_message : List ℕ
create_message = codes "CREATE TABLE message (owner BLOB NOT NULL REFERENCES account (name), id INTEGER NOT NULL, bytes BLOB NOT NULL, PRIMARY KEY (owner, id)) STRICT"

abbrev pub insert_message : List ℕ
insert_message = codes "INSERT INTO message (owner, id, bytes) VALUES (?1, ?2, ?3)"

abbrev pub delete_message : List ℕ
delete_message = codes "DELETE FROM message WHERE owner = ?1 AND id = ?2"

abbrev pub delete_messages : List ℕ
delete_messages = codes "DELETE FROM message WHERE owner = ?1"

abbrev pub select_message : List ℕ
select_message = codes "SELECT bytes FROM message WHERE owner = ?1 AND id = ?2"

-- ---- its rows

abbrev pub message_cells : List ℕ → ℤ → List ℕ → Row
message_cells owner id bytes = Blob owner ∷ Int id ∷ Blob bytes ∷ []

abbrev pub message_key : List ℕ → ℤ → Row
message_key owner id = Blob owner ∷ Int id ∷ []
