-- The table of the copies of messages, which make up the folders: a row says which message a folder has, and with which flags (RFC 5232).
use Rattle.std.specs.Prelude.{false, ℕ, ◌+◌, ℤ, List, [], ◌∷◌, codes}
use Rattle.sqlite_schema.specs.declared.schema.Action.TheVariants.{NoAction}
use Rattle.sqlite_schema.specs.declared.schema.Kind.TheVariants as kind
use Rattle.sqlite_schema.specs.declared.schema.Index.{Index}
use Rattle.sqlite_schema.specs.declared.schema.Reference.{Reference}
use Rattle.sqlite_schema.specs.declared.schema.Table.{Table}
use Rattle.sqlite_value.specs.declared.value.Value.TheVariants.{Int, Blob}
use Rattle.sqlite_value.specs.Keys.{plain}
use Rattle.sqlite_value.specs.Order.{Row}
use Rattle.store_tables.specs.Forms.{needed, keyed}
use Rattle.store_tables.specs.AccountTable.{account_reference}

-- the number of the table's tree
abbrev pub copy_tree : ℕ
copy_tree = 14

-- ---- the columns

abbrev pub folder_column : ℕ
folder_column = 1

abbrev pub n_column : ℕ
n_column = 2

abbrev pub id_column : ℕ
id_column = 3

abbrev pub flags_column : ℕ
flags_column = 4

-- `REFERENCES message (owner, id)` on the columns of the owner and of the message's number
abbrev pub message_reference : Reference
message_reference = record { columns = 1 ∷ 4 ∷ []; parent = codes "message"; parent_columns = codes "owner" ∷ codes "id" ∷ []; on_delete = NoAction; on_update = NoAction; is_deferred = false }

abbrev pub to_message : List Reference
to_message = account_reference ∷ message_reference ∷ []

abbrev pub copy : Table
copy = keyed (codes "copy") copy_tree (1 ∷ 2 ∷ 3 ∷ []) to_message
    (needed (codes "owner") kind.Blob ∷ needed (codes "folder") kind.Blob ∷ needed (codes "n") kind.Integer ∷ needed (codes "id") kind.Integer ∷ needed (codes "flags") kind.Blob ∷ [])

-- the index of the copies by their messages, whose tree is the one after the last table's two
abbrev pub copy_message : Index
copy_message = record { name = codes "copy_message"; tree = copy_tree + 2; table = copy_tree; columns = 1 ∷ 4 ∷ []; order = plain; is_unique = false }

-- ---- its statements

abbrev pub create_copy : List ℕ
create_copy =
    codes "CREATE TABLE copy (owner BLOB NOT NULL REFERENCES account (name), folder BLOB NOT NULL, n INTEGER NOT NULL, id INTEGER NOT NULL, flags BLOB NOT NULL, PRIMARY KEY (owner, folder, n), FOREIGN KEY (owner, id) REFERENCES message (owner, id)) STRICT"

abbrev pub create_copy_message : List ℕ
create_copy_message = codes "CREATE INDEX copy_message ON copy (owner, id)"

abbrev pub insert_copy : List ℕ
insert_copy = codes "INSERT INTO copy (owner, folder, n, id, flags) VALUES (?1, ?2, ?3, ?4, ?5)"

abbrev pub delete_copy : List ℕ
delete_copy = codes "DELETE FROM copy WHERE owner = ?1 AND folder = ?2 AND n = ?3"

abbrev pub delete_copies : List ℕ
delete_copies = codes "DELETE FROM copy WHERE owner = ?1"

-- one copy of a folder, after that many
abbrev pub select_nth : List ℕ
select_nth = codes "SELECT folder, n, id, flags FROM copy WHERE owner = ?1 AND folder = ?2 ORDER BY n LIMIT 1 OFFSET ?3"

-- the numbers of a folder's copies, in their order
abbrev pub select_numbers : List ℕ
select_numbers = codes "SELECT n FROM copy WHERE owner = ?1 AND folder = ?2 ORDER BY n"

-- another copy of the same message, if there is one
abbrev pub select_other : List ℕ
select_other = codes "SELECT n FROM copy WHERE owner = ?1 AND id = ?2 AND n <> ?3 LIMIT 1"

-- the place of the first copy with a higher number in the folder; in a later folder of the user; of a later user
abbrev pub select_later_number : List ℕ
select_later_number = codes "SELECT owner, folder, n FROM copy WHERE owner = ?1 AND folder = ?2 AND n > ?3 ORDER BY owner, folder, n LIMIT 1"

abbrev pub select_later_folder : List ℕ
select_later_folder = codes "SELECT owner, folder, n FROM copy WHERE owner = ?1 AND folder > ?2 ORDER BY owner, folder, n LIMIT 1"

abbrev pub select_later_owner : List ℕ
select_later_owner = codes "SELECT owner, folder, n FROM copy WHERE owner > ?1 ORDER BY owner, folder, n LIMIT 1"

abbrev pub select_folders : List ℕ
select_folders = codes "SELECT folder FROM copy WHERE owner = ?1 ORDER BY folder"

abbrev pub select_folder : List ℕ
select_folder =
    codes "SELECT message.bytes FROM copy JOIN message ON message.owner = copy.owner AND message.id = copy.id WHERE copy.owner = ?1 AND copy.folder = ?2 ORDER BY copy.n"

-- ---- its rows

-- the last cell is the text that names the flags of the copy
abbrev pub copy_cells : List ℕ → List ℕ → ℤ → ℤ → List ℕ → Row
copy_cells owner folder n id flags = Blob owner ∷ Blob folder ∷ Int n ∷ Int id ∷ Blob flags ∷ []

-- the key of a row: the owner, the folder and the number
abbrev pub copy_key : List ℕ → List ℕ → ℤ → Row
copy_key owner folder n = Blob owner ∷ Blob folder ∷ Int n ∷ []
