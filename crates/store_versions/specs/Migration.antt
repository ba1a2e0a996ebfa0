-- How a database of version 1 becomes one of version 3.
use Rattle.std.specs.Prelude.{◌≡◌, nat_le, cond, ℕ, List, [], ◌∷◌, fold, ◌++◌, map, Vec, IsPermutation}
use Rattle.std.specs.declared.alloc.Global.{Global}
use Rattle.sqlite_value.specs.Order.{Row}
use Rattle.sqlite_value.specs.declared.value.Value.TheVariants.{Int, Blob}
use Rattle.store_versions.specs.declared.migration.OldCopy.{OldCopy}
use Rattle.store_versions.specs.declared.moving.Later.{Later}
use Rattle.store_versions.specs.declared.moving.Queued.{Queued}
use Rattle.store_versions.specs.declared.moving.Replied.{Replied}
use Rattle.store_versions.specs.declared.moving.Noted.{Noted}
use Rattle.sqlite_keyed.specs.Lists.{delete_where}
use Rattle.sqlite_schema.specs.declared.schema.Schema.{Schema}
use Rattle.sqlite.specs.Effect.{Database}
use Rattle.store_tables.specs.Rows.{Tables, HoldsTables, has_key, row_added, rows_removed}
use Rattle.store_tables.specs.Schema.{mail_schema, schema_3, schema_6, schema_7}
use Rattle.store_versions.specs.OldSchema.{IsOldSchema, old_schema, oldest_schema, oldest_4, old_copy_tree, oldest_copy_tree, oldest_outgoing_tree, oldest_reply_tree, oldest_notice_tree, queue_columns, four_cells, old_cells, message_from, copy_from}
use Rattle.store_tables.specs.MetaTable.{meta_tree, version_key, version_row}
use Rattle.store_tables.specs.AccountTable.{account_tree}
use Rattle.store_tables.specs.ScriptTable.{scripts_tree}
use Rattle.store_tables.specs.QueueTable.{outgoing_tree}
use Rattle.store_tables.specs.ReplyTable.{reply_tree}
use Rattle.store_tables.specs.NoticeTable.{notice_tree}
use Rattle.store_tables.specs.MessageTable.{message_tree}
use Rattle.store_tables.specs.CopyTable.{copy_tree}
use Rattle.store_versions.specs.SecondSchema.{IsSecondSchema}
use Rattle.store_versions.specs.Inside.{LosesTable}

-- a copy of version 1, as in its row
abbrev pub old_copy_cells : OldCopy → Row
old_copy_cells copy = Blob copy.owner.now ∷ Blob copy.folder.now ∷ Int copy.n ∷ Blob copy.message.now ∷ []

-- the rows are those of version 1's copies, in any order, and what is seen stays as it is
pub record AreOldCopies (rows : Vec Row Global) (old new : Database) : Type 0 where
  pub same : IsOldSchema old.schema → new ≡ old
  pub last : (tables : Tables) → HoldsTables old_schema old tables → IsPermutation (map old_cells (tables old_copy_tree)) rows.items
  pub fourth : (tables : Tables) → HoldsTables oldest_schema old tables → IsPermutation (map old_cells (tables oldest_copy_tree)) rows.items

-- the table of the copies is dropped: of version 1 if it was the last, or if it was the fourth and the later ones are dropped; and of version 2
pub record LosesCopies (old new : Database) : Type 0 where
  pub last : LosesTable old_schema schema_6 old new
  pub fourth : LosesTable oldest_4 schema_3 old new
  pub second : (schema : Schema) → IsSecondSchema schema → LosesTable schema schema_7 old new

-- the tables without those from this number on
abbrev pub tables_before : ℕ → Tables → Tables
tables_before n tables tree = cond (nat_le n tree) [] (tables tree)

-- drops the table of the copies, which is the last, and makes those of the messages and of their copies, without rows
abbrev pub Remakes : Database → Database → Type 0
Remakes old new = (tables : Tables) → HoldsTables old_schema old tables → HoldsTables mail_schema new (tables_before old_copy_tree tables)

-- a copy of version 1 joins the messages and the copies
abbrev pub refiled : Row → Tables → Tables
refiled cells tables = row_added copy_tree (copy_from cells) (row_added message_tree (message_from cells) tables)

-- these do, in order
abbrev pub filled : List Row → Tables → Tables
filled rows tables = fold (λ now cells. refiled cells now) tables rows

-- the row of the version is that of version 3
abbrev pub renewed : Tables → Tables
renewed tables = row_added meta_tree version_row (rows_removed meta_tree version_key tables)

-- from the tables of version 1, with the copies last, these are those of version 3: each copy has its message, of its own number, and the other rows
-- are as before
pub record IsMigrated (old new : Tables) : Type 0 where
  pub copies : List Row
  pub same : IsPermutation (map old_cells (old old_copy_tree)) copies
  pub messages : new message_tree ≡ map message_from copies
  pub filed : new copy_tree ≡ map copy_from copies
  pub version : new meta_tree ≡ delete_where (has_key version_key) (old meta_tree) ++ version_row ∷ []
  pub accounts : new account_tree ≡ old account_tree
  pub scripts : new scripts_tree ≡ old scripts_tree
  pub queue : new outgoing_tree ≡ old outgoing_tree
  pub replies : new reply_tree ≡ old reply_tree
  pub notices : new notice_tree ≡ old notice_tree

-- a database of version 1 with the copies last has turned into one of version 3
abbrev pub TurnsNew : Database → Database → Type 0
TurnsNew old new = (tables : Tables) → HoldsTables old_schema old tables → (after : Tables) × IsMigrated tables after × HoldsTables mail_schema new after

-- ---- with the copies fourth: the tables after them are made again, with their rows

-- all rows of a table of it are these, in any order
abbrev pub AreRowsAt : ℕ → (Row → Row) → Database → Vec Row Global → Type 0
AreRowsAt tree columns db rows = (tables : Tables) → HoldsTables oldest_schema db tables → IsPermutation (map columns (tables tree)) rows.items

-- the rows are those of one table, and what is seen stays as it is
pub record AreOldRows (tree : ℕ) (columns : Row → Row) (rows : Vec Row Global) (old new : Database) : Type 0 where
  pub same : old.schema ≡ oldest_schema → new ≡ old
  pub all : AreRowsAt tree columns old rows

-- they are those of the queue, of the replies and of the notices
pub record AreLater (later : Later) (old new : Database) : Type 0 where
  pub same : old.schema ≡ oldest_schema → new ≡ old
  pub queue : AreRowsAt oldest_outgoing_tree queue_columns old later.queue
  pub replies : AreRowsAt oldest_reply_tree four_cells old later.replies
  pub notices : AreRowsAt oldest_notice_tree four_cells old later.notices

-- drops the tables from the copies on, and makes those of version 3 without rows
abbrev pub RemakesAll : Database → Database → Type 0
RemakesAll old new = (tables : Tables) → HoldsTables oldest_schema old tables → HoldsTables mail_schema new (tables_before oldest_copy_tree tables)

-- these rows are added to a table, in order
abbrev pub rows_joined : ℕ → (Row → Row) → List Row → Tables → Tables
rows_joined tree columns rows tables = fold (λ now cells. row_added tree (columns cells) now) tables rows

-- those of the later tables
abbrev pub restored : Later → Tables → Tables
restored later tables = rows_joined notice_tree four_cells later.notices.items (rows_joined reply_tree four_cells later.replies.items (rows_joined outgoing_tree queue_columns later.queue.items tables))

-- from the tables of version 1 with the copies fourth, these are those with the copies last: each has the rows that it had, in any order
pub record IsMoved (old new : Tables) : Type 0 where
  pub versions : new meta_tree ≡ old meta_tree
  pub accounts : new account_tree ≡ old account_tree
  pub scripts : new scripts_tree ≡ old scripts_tree
  pub queue : IsPermutation (map queue_columns (old oldest_outgoing_tree)) (new outgoing_tree)
  pub replies : IsPermutation (map four_cells (old oldest_reply_tree)) (new reply_tree)
  pub notices : IsPermutation (map four_cells (old oldest_notice_tree)) (new notice_tree)
  pub copies : new old_copy_tree ≡ old oldest_copy_tree

-- a database of version 1 with the copies fourth has turned into one of version 3, as one with the copies last would
abbrev pub TurnsNewest : Database → Database → Type 0
TurnsNewest old new = (tables : Tables) → HoldsTables oldest_schema old tables → (moved after : Tables) × IsMoved tables moved × IsMigrated moved after × HoldsTables mail_schema new after

-- ---- the fields of the rows of the later tables

abbrev pub queued_cells : Queued → Row
queued_cells q = Blob q.owner.now ∷ Int q.id ∷ Int q.kind ∷ Blob q.sender.now ∷ Blob q.target.now ∷ Blob q.message.now ∷ []

abbrev pub replied_cells : Replied → Row
replied_cells r = Blob r.owner.now ∷ Blob r.handle.now ∷ Blob r.sender.now ∷ Int r.moment ∷ []

abbrev pub noted_cells : Noted → Row
noted_cells n = Blob n.owner.now ∷ Int n.id ∷ Int n.moment ∷ Blob n.text.now ∷ []
