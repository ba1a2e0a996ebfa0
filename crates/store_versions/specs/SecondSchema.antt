-- The tables of version 2, in which a copy has no flags, with the index of the copies by their messages or without it.
use Rattle.std.specs.Prelude.{◌≡◌, ◌⊎◌, ℕ, pos, List, [], ◌∷◌, codes}
use Rattle.sqlite_schema.specs.declared.schema.Kind.TheVariants as kind
use Rattle.sqlite_schema.specs.declared.schema.Table.{Table}
use Rattle.sqlite_schema.specs.declared.schema.Schema.{Schema}
use Rattle.sqlite_value.specs.declared.value.Value.TheVariants.{Int, Blob}
use Rattle.sqlite_value.specs.Order.{Row, column}
use Rattle.sqlite.specs.Effect.{Database}
use Rattle.store_tables.specs.MetaTable.{meta, version_rows, stored_value_column}
use Rattle.store_tables.specs.Forms.{needed, keyed}
use Rattle.store_tables.specs.AccountTable.{account}
use Rattle.store_tables.specs.ScriptTable.{script}
use Rattle.store_tables.specs.QueueTable.{outgoing}
use Rattle.store_tables.specs.ReplyTable.{reply}
use Rattle.store_tables.specs.NoticeTable.{notice}
use Rattle.store_tables.specs.MessageTable.{message}
use Rattle.store_tables.specs.CopyTable.{copy_tree, to_message}
use Rattle.store_tables.specs.Schema.{the_keys, the_indexes}

-- the table of its copies
abbrev pub second_copy : Table
second_copy = keyed (codes "copy") copy_tree (1 ∷ 2 ∷ 3 ∷ []) to_message
    (needed (codes "owner") kind.Blob ∷ needed (codes "folder") kind.Blob ∷ needed (codes "n") kind.Integer ∷ needed (codes "id") kind.Integer ∷ [])

abbrev pub create_second_copy : List ℕ
create_second_copy =
    codes "CREATE TABLE copy (owner BLOB NOT NULL REFERENCES account (name), folder BLOB NOT NULL, n INTEGER NOT NULL, id INTEGER NOT NULL, PRIMARY KEY (owner, folder, n), FOREIGN KEY (owner, id) REFERENCES message (owner, id)) STRICT"

-- its tables: except for the copies they are those of today, and so are the keys and the index of the copies
abbrev pub second_tables : List Table
second_tables = meta ∷ account ∷ script ∷ outgoing ∷ reply ∷ notice ∷ message ∷ second_copy ∷ []

abbrev pub second_schema : Schema
second_schema = record { tables = second_tables; indexes = the_indexes; views = [] }

-- that of a store that was made before the index of the copies by their messages was introduced
abbrev pub second_unindexed_schema : Schema
second_unindexed_schema = record { tables = second_tables; indexes = the_keys; views = [] }

-- version 2, with that index or without it
abbrev pub IsSecondSchema : Schema → Type 0
IsSecondSchema schema = (schema ≡ second_schema) ⊎ (schema ≡ second_unindexed_schema)

-- a database of version 2's tables, whose one row of the version says 2
pub record IsSecondVersion (db : Database) : Type 0 where
  pub schema : IsSecondSchema db.schema
  pub row : Row
  pub only : version_rows db.trees ≡ row ∷ []
  pub says : column row stored_value_column ≡ Int (pos 2)

abbrev pub select_second_copies : List ℕ
select_second_copies = codes "SELECT owner, folder, n, id FROM copy"

-- the copy's row of version 3: without flags
abbrev pub flagless : Row → Row
flagless cells = column cells 0 ∷ column cells 1 ∷ column cells 2 ∷ column cells 3 ∷ Blob [] ∷ []
