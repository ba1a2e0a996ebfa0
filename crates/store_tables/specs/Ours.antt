-- Which databases are ours, and what making one leaves.
use Rattle.std.specs.Prelude.{◌≡◌, ◌↔◌, Bool, pos, [], ◌∷◌, Result, OnOk, IsTrue}
use Rattle.sqlite_value.specs.declared.value.Value.TheVariants.{Int}
use Rattle.sqlite_value.specs.Order.{Row, column}
use Rattle.sqlite_trees.specs.Tree.{Trees}
use Rattle.sqlite_trees.specs.declared.store.Store.{Ghosts}
use Rattle.sqlite.specs.declared.error.Error.{Error}
use Rattle.sqlite.specs.declared.transaction.Transaction.{Transaction}
use Rattle.sqlite.specs.Effect.{Database}
use Rattle.sqlite.specs.State.{State, HasCleanDisk}
use Rattle.store_tables.specs.Rows.{Tables, HoldsTables, row_added}
use Rattle.store_tables.specs.Schema.{no_schema, mail_schema, IsOurSchema}
use Rattle.store_tables.specs.Connection.{no_rows, RunsInside, Makes, AsksDatabase}
use Rattle.store_tables.specs.MetaTable.{meta_tree, version_row, version_rows, stored_value_column}

-- a database of our tables, whose one row of the version says 3
pub record IsOurs (db : Database) : Type 0 where
  pub schema : IsOurSchema db.schema
  pub row : Row
  pub only : version_rows db.trees ≡ row ∷ []
  pub says : column row stored_value_column ≡ Int (pos 3)

-- no table has a row but that of the version
abbrev pub only_version : Tables
only_version = row_added meta_tree version_row no_rows

-- an empty database has turned into one that holds our tables, and no row but that of the version
abbrev pub TurnsOurs : Database → Database → Type 0
TurnsOurs old new = old.schema ≡ no_schema → HoldsTables mail_schema new only_version

-- our tables and the row of their version, made inside a transaction
abbrev pub MakesOurs : {S X : Type 0} → Ghosts S → Transaction S → Transaction S → Result X Error → Type 0
MakesOurs g = RunsInside g (Makes TurnsOurs)

-- after Ok they are made
abbrev pub Creates : {X E : Type 0} → State → State → Result X E → Type 0
Creates old new result = HasCleanDisk new → OnOk result (TurnsOurs old.now new.now)

-- what a crash may leave while they are made in an empty database
abbrev pub MayCreate : State → Trees → Type 0
MayCreate s trees = s.now.schema ≡ no_schema → (db : Database) × HoldsTables mail_schema db only_version × (trees ≡ db.trees)

-- ---- a database that is opened

-- how opening changes a database that is ours: it stays as it is
abbrev pub IsOpenedAs : Database → Database → Type 0
IsOpenedAs old new = new ≡ old

-- a database of our tables is opened: the answer says whether it is ours; all stays as it was, a crash leaves what it left before, and after
-- an answer the last commit is seen
abbrev pub OpensOurs : {E : Type 0} → State → State → Result Bool E → Type 0
OpensOurs old new result = AsksDatabase IsOurSchema (λ is. IsTrue is ↔ IsOurs old.now) old new result
