-- How a database of version 2 becomes one of version 3.
use Rattle.std.specs.Prelude.{◌≡◌, List, [], ◌∷◌, ◌++◌, map, Vec, IsPermutation}
use Rattle.std.specs.declared.alloc.Global.{Global}
use Rattle.sqlite_value.specs.Order.{Row}
use Rattle.sqlite_keyed.specs.Lists.{delete_where}
use Rattle.sqlite_schema.specs.declared.schema.Schema.{Schema}
use Rattle.sqlite.specs.Effect.{Database}
use Rattle.store_tables.specs.Rows.{Tables, HoldsTables, has_key}
use Rattle.store_tables.specs.Schema.{mail_schema}
use Rattle.store_tables.specs.MetaTable.{meta_tree, version_key, version_row}
use Rattle.store_tables.specs.AccountTable.{account_tree}
use Rattle.store_tables.specs.ScriptTable.{scripts_tree}
use Rattle.store_tables.specs.QueueTable.{outgoing_tree}
use Rattle.store_tables.specs.ReplyTable.{reply_tree}
use Rattle.store_tables.specs.NoticeTable.{notice_tree}
use Rattle.store_tables.specs.MessageTable.{message_tree}
use Rattle.store_tables.specs.CopyTable.{copy_tree, copy_cells}
use Rattle.store_versions.specs.declared.third.SecondCopy.{SecondCopy}
use Rattle.store_versions.specs.OldSchema.{four_cells}
use Rattle.store_versions.specs.SecondSchema.{IsSecondSchema, flagless}
use Rattle.store_versions.specs.Migration.{tables_before, rows_joined, renewed}

-- a copy of version 2, as a row of version 3
abbrev pub third_cells : SecondCopy → Row
third_cells copy = copy_cells copy.owner.now copy.folder.now copy.n copy.id []

-- the rows are those of version 2's copies, in any order, and what is seen stays as it is
pub record AreSecondCopies (rows : Vec Row Global) (old new : Database) : Type 0 where
  pub same : IsSecondSchema old.schema → new ≡ old
  pub all : (schema : Schema) → IsSecondSchema schema → (tables : Tables) → HoldsTables schema old tables → IsPermutation (map four_cells (tables copy_tree)) rows.items

-- drops the table of the copies, and makes that of version 3 without rows
abbrev pub RemakesCopies : Database → Database → Type 0
RemakesCopies old new = (schema : Schema) → IsSecondSchema schema → (tables : Tables) → HoldsTables schema old tables → HoldsTables mail_schema new (tables_before copy_tree tables)

-- the copies of version 2 are added to those of version 3 in order, and the row of the version is that of version 3
abbrev pub flagged : List Row → Tables → Tables
flagged rows tables = renewed (rows_joined copy_tree flagless rows tables)

-- from the tables of version 2 these are those of version 3: each copy is as it was, in any order, without flags, and the other rows are as before
pub record IsThird (old new : Tables) : Type 0 where
  pub filed : IsPermutation (map flagless (old copy_tree)) (new copy_tree)
  pub version : new meta_tree ≡ delete_where (has_key version_key) (old meta_tree) ++ version_row ∷ []
  pub accounts : new account_tree ≡ old account_tree
  pub scripts : new scripts_tree ≡ old scripts_tree
  pub queue : new outgoing_tree ≡ old outgoing_tree
  pub replies : new reply_tree ≡ old reply_tree
  pub notices : new notice_tree ≡ old notice_tree
  pub messages : new message_tree ≡ old message_tree

-- a database of version 2, with the index of the copies or without it, has turned into one of version 3
abbrev pub TurnsThird : Database → Database → Type 0
TurnsThird old new = (schema : Schema) → IsSecondSchema schema → (tables : Tables) → HoldsTables schema old tables → (after : Tables) × IsThird tables after × HoldsTables mail_schema new after
