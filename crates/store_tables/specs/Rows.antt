-- A table as the list of its rows' cells, without the rowid, in the order in which they were made.
use Rattle.std.specs.Prelude.{◌≡◌, ℕ, suc, ℤ, Bool, true, ◌&&◌, List, [], ◌∷◌, ◌++◌, map}
use Rattle.sqlite_value.specs.declared.value.Value.{Value}
use Rattle.sqlite_value.specs.declared.value.Value.TheVariants.{Int}
use Rattle.sqlite_value.specs.declared.keys.Collation.TheVariants.{Binary}
use Rattle.sqlite_value.specs.Order.{Row, column}
use Rattle.sqlite_trees.specs.Tree.{with_tree}
use Rattle.sqlite_schema.specs.declared.schema.Table.{Table}
use Rattle.sqlite_schema.specs.declared.schema.Schema.{Schema}
use Rattle.sqlite_sql.specs.Ops.{binary, is_true}
use Rattle.sqlite_sql.specs.declared.ops.BinaryOp.TheVariants.{Compare}
use Rattle.sqlite_sql.specs.declared.ops.CompareOp.TheVariants.{Le}
use Rattle.sqlite_schema.specs.Rules.{equal, Fits}
use Rattle.sqlite_rules.specs.Lists.{Has}
use Rattle.sqlite_keyed.specs.Keyed.{IsKeyedBy}
use Rattle.sqlite_keyed.specs.Lists.{delete_where, update_where}
use Rattle.sqlite.specs.Effect.{Database}

-- a rowid and the cells
abbrev pub Entry : Type 0
Entry = ℤ × Row

abbrev pub id_of : Entry → ℤ
id_of e = e.0

abbrev pub cells_of : Entry → Row
cells_of e = e.1

-- the row as a tree has it
abbrev pub stored : Entry → Row
stored e = Int (id_of e) ∷ cells_of e

-- the rows of a tree are these cells, in the order of ascending rowids
pub record IsHeld (rows : List Row) (cells : List Row) : Type 0 where
  pub entries : List Entry
  pub keyed : IsKeyedBy id_of entries
  pub rows_are : rows ≡ map stored entries
  pub cells_are : cells ≡ map cells_of entries

-- for each tree of a table its rows, in the order in which they were made
abbrev pub Tables : Type 0
Tables = ℕ → List Row

-- a database of the schema has these rows in its tables
pub record HoldsTables (schema : Schema) (db : Database) (tables : Tables) : Type 0 where
  pub is : db.schema ≡ schema
  pub fits : Fits schema db.trees
  pub each : (t : Table) → Has schema.tables t → IsHeld (db.trees t.tree) (tables t.tree)

-- the columns from an index on are equal to the key, as by SQL's =
abbrev pub has_key_from : ℕ → Row → Row → Bool
has_key_from at [] cells = true
has_key_from at (k ∷ key) cells = equal Binary (column cells at) k && has_key_from (suc at) key cells

-- the row begins with the key
abbrev pub has_key : Row → Row → Bool
has_key = has_key_from 0

-- as by SQL's <=, which isn't true of NULL
abbrev pub at_most : Value → Value → Bool
at_most a b = is_true (binary (Compare Le Binary) a b)

-- a row joins the end of its table
abbrev pub row_added : ℕ → Row → Tables → Tables
row_added tree cells tables = with_tree tables tree (tables tree ++ cells ∷ [])

-- the rows that fulfil this are removed
abbrev pub removed_where : ℕ → (Row → Bool) → Tables → Tables
removed_where tree test tables = with_tree tables tree (delete_where test (tables tree))

-- the rows that begin with the key are removed, if there are any: if it is a whole key, at most one
abbrev pub rows_removed : ℕ → Row → Tables → Tables
rows_removed tree key = removed_where tree (has_key key)

-- the row with the key is changed, if there is one
abbrev pub set_in : ℕ → Row → (Row → Row) → Tables → Tables
set_in tree key f tables = with_tree tables tree (update_where (has_key key) f (tables tree))
