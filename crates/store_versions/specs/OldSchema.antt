-- The tables of version 1, in either order in which they were made.
use Rattle.std.specs.Prelude.{◌≡◌, ◌⊎◌, ℕ, pos, List, [], ◌∷◌, codes}
use Rattle.sqlite_schema.specs.declared.schema.Kind.TheVariants as kind
use Rattle.sqlite_schema.specs.declared.schema.Table.{Table}
use Rattle.sqlite_schema.specs.declared.schema.Schema.{Schema}
use Rattle.sqlite_catalog.specs.Change.{created}
use Rattle.sqlite_value.specs.declared.value.Value.TheVariants.{Int, Blob}
use Rattle.sqlite_value.specs.Order.{Row, column}
use Rattle.sqlite.specs.Effect.{Database}
use Rattle.store_tables.specs.MetaTable.{version_rows, stored_value_column}
use Rattle.store_tables.specs.Forms.{needed, keyed}
use Rattle.store_tables.specs.AccountTable.{to_account}
use Rattle.store_tables.specs.QueueTable.{outgoing}
use Rattle.store_tables.specs.ReplyTable.{reply}
use Rattle.store_tables.specs.NoticeTable.{notice}
use Rattle.store_tables.specs.Schema.{schema_3, schema_6}

-- the table of the copies of version 1, each with its own octets, by its tree
abbrev pub old_copy : ℕ → Table
old_copy tree = keyed (codes "copy") tree (1 ∷ 2 ∷ 3 ∷ []) to_account
    (needed (codes "owner") kind.Blob ∷ needed (codes "folder") kind.Blob ∷ needed (codes "n") kind.Integer ∷ needed (codes "message") kind.Blob ∷ [])

abbrev pub create_old_copy : List ℕ
create_old_copy =
    codes "CREATE TABLE copy (owner BLOB NOT NULL REFERENCES account (name), folder BLOB NOT NULL, n INTEGER NOT NULL, message BLOB NOT NULL, PRIMARY KEY (owner, folder, n)) STRICT"

-- version 1 with the copies last
abbrev pub old_copy_tree : ℕ
old_copy_tree = 12

-- the schema of version 1 with the copies last
abbrev pub old_schema : Schema
old_schema = created schema_6 (old_copy 0)

-- version 1 with the copies fourth, before the queue, the replies and the notices; and its state when each of these was made
abbrev pub oldest_copy_tree : ℕ
oldest_copy_tree = 6

abbrev pub oldest_4 : Schema
oldest_4 = created schema_3 (old_copy 0)

abbrev pub oldest_5 : Schema
oldest_5 = created oldest_4 (record outgoing { tree = 0 })

abbrev pub oldest_6 : Schema
oldest_6 = created oldest_5 (record reply { tree = 0 })

-- the schema of version 1 with the copies fourth
abbrev pub oldest_schema : Schema
oldest_schema = created oldest_6 (record notice { tree = 0 })

-- version 1, in either order
abbrev pub IsOldSchema : Schema → Type 0
IsOldSchema schema = (schema ≡ old_schema) ⊎ (schema ≡ oldest_schema)

-- a database of version 1's tables, in either order, whose one row of the version says 1
pub record IsOld (db : Database) : Type 0 where
  pub schema : IsOldSchema db.schema
  pub row : Row
  pub only : version_rows db.trees ≡ row ∷ []
  pub says : column row stored_value_column ≡ Int (pos 1)

-- ---- the statements that move it to version 3

abbrev pub select_old_copies : List ℕ
select_old_copies = codes "SELECT owner, folder, n, message FROM copy"

abbrev pub delete_version : List ℕ
delete_version = codes "DELETE FROM meta WHERE item = ?1"

abbrev pub drop_copy : List ℕ
drop_copy = codes "DROP TABLE copy"

abbrev pub drop_outgoing : List ℕ
drop_outgoing = codes "DROP TABLE outgoing"

abbrev pub drop_reply : List ℕ
drop_reply = codes "DROP TABLE reply"

abbrev pub drop_notice : List ℕ
drop_notice = codes "DROP TABLE notice"

abbrev pub select_old_queue : List ℕ
select_old_queue = codes "SELECT owner, id, kind, sender, target, message FROM outgoing"

abbrev pub select_old_replies : List ℕ
select_old_replies = codes "SELECT owner, handle, sender, moment FROM reply"

abbrev pub select_old_notices : List ℕ
select_old_notices = codes "SELECT owner, id, moment, text FROM notice"

-- ---- the places of the later tables, with the copies fourth

abbrev pub oldest_outgoing_tree : ℕ
oldest_outgoing_tree = 8

abbrev pub oldest_reply_tree : ℕ
oldest_reply_tree = 10

abbrev pub oldest_notice_tree : ℕ
oldest_notice_tree = 12

-- ---- the rows of its copies

-- the owner, the folder, the number and the message
abbrev pub old_cells : Row → Row
old_cells cells = column cells 0 ∷ column cells 1 ∷ column cells 2 ∷ column cells 3 ∷ []

-- the message's row of version 3: its number is the copy's
abbrev pub message_from : Row → Row
message_from cells = column cells 0 ∷ column cells 2 ∷ column cells 3 ∷ []

-- the copy's row of version 3: it is a copy of the message with its own number, without flags
abbrev pub copy_from : Row → Row
copy_from cells = column cells 0 ∷ column cells 1 ∷ column cells 2 ∷ column cells 2 ∷ Blob [] ∷ []

-- ---- the rows of the tables that come later

-- a message on its way out: the six columns
abbrev pub queue_columns : Row → Row
queue_columns cells = column cells 0 ∷ column cells 1 ∷ column cells 2 ∷ column cells 3 ∷ column cells 4 ∷ column cells 5 ∷ []

-- a reply or a notice: the four columns
abbrev pub four_cells : Row → Row
four_cells cells = column cells 0 ∷ column cells 1 ∷ column cells 2 ∷ column cells 3 ∷ []
