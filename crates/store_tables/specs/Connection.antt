-- What a call leaves of a connection: after Ok, after a refusal, and after a crash.
use Rattle.std.specs.Prelude.{◌≡◌, ◌⊎◌, ◌≤◌, ◌||◌, ℕ, Bool, true, false, List, [], codes, is_some, Result, Vec, Ok, Err, OnOk, IfOk, IfErr, IsTrue}
use Rattle.std.specs.declared.alloc.Global.{Global}
use Rattle.sqlite_value.specs.Order.{Row}
use Rattle.sqlite_schema.specs.declared.schema.Schema.{Schema}
use Rattle.sqlite_schema.specs.Names.{table_named}
use Rattle.sqlite_catalog.specs.Change.{next_tree}
use Rattle.sqlite_trees.specs.declared.store.Store.{Ghosts}
use Rattle.sqlite_trees.specs.Tree.{Trees}
use Rattle.sqlite_trees.specs.View.{doubt}
use Rattle.sqlite.specs.declared.error.Error.{Error}
use Rattle.sqlite.specs.declared.transaction.Transaction.{Transaction}
use Rattle.sqlite.specs.Effect.{Database}
use Rattle.sqlite.specs.Held.{Held, state}
use Rattle.sqlite.specs.State.{State, HasCleanDisk, CommitsShowing, ExecutesInside, FailsToQuery, IsTooLate, KeepsCommit, Shown, Shows, Survives}
use Rattle.store_tables.specs.Rows.{Tables, HoldsTables}
use Rattle.store_tables.specs.Schema.{mail_schema}

-- no table has a row
abbrev pub no_rows : Tables
no_rows tree = []

-- statements inside a transaction, which run like this: it stays one of the same connection, and a crash leaves what it left before
pub record RunsInside {S X : Type 0} (g : Ghosts S) (Run : State → State → Result X Error → Type 0) (old new : Transaction S) (result : Result X Error) : Type 0 where
  pub same_reference : new.conn.ghost_name ≡ old.conn.ghost_name
  pub made : HasCleanDisk (state g new.conn.now) → IsTrue (state g old.conn.now).in_transaction → Run (state g old.conn.now) (state g new.conn.now) result
  pub survives : Survives (state g old.conn.now) (state g new.conn.now) (λ _. ⊥)

-- the statement of this text ran or failed; how many rows it changed isn't said
abbrev pub RunsText : {X : Type 0} → List ℕ → Row → State → State → Result X Error → Type 0
RunsText sql params old new (Ok x) = (count : ℕ) × ExecutesInside 0 sql params old new (Ok count)
RunsText sql params old new (Err e) = ExecutesInside 0 sql params old new (Err e)

-- the last commit stays, and after Ok what is seen has turned like this
abbrev pub Makes : {X : Type 0} → (Database → Database → Type 0) → State → State → Result X Error → Type 0
Makes Turned old new result = KeepsCommit old new × OnOk result (Turned old.now new.now × Shows old new new.now old.committed true)

-- the tables that held these then hold what the function makes of them
abbrev pub TurnsRows : (Tables → Tables) → Database → Database → Type 0
TurnsRows change old new = (tables : Tables) → HoldsTables mail_schema old tables → HoldsTables mail_schema new (change tables)

-- no table from this number on has a row
abbrev pub HasNoneFrom : ℕ → Tables → Type 0
HasNoneFrom n tables = (tree : ℕ) → n ≤ tree → tables tree ≡ []

-- if the schema was the first one, it is then the next: the tables that were there hold what they held, and the new ones hold nothing
abbrev pub TurnsSchema : Schema → Schema → Database → Database → Type 0
TurnsSchema schema next old new = (tables : Tables) → HoldsTables schema old tables → HasNoneFrom (next_tree schema) tables → HoldsTables next new tables

-- a statement inside a transaction
abbrev pub RunsStatement : {S X : Type 0} → Ghosts S → List ℕ → Row → Transaction S → Transaction S → Result X Error → Type 0
RunsStatement g sql params = RunsInside g (RunsText sql params)

-- changes of our tables' rows inside a transaction
abbrev pub ChangesRows : {S X : Type 0} → Ghosts S → (Tables → Tables) → Transaction S → Transaction S → Result X Error → Type 0
ChangesRows g change = RunsInside g (Makes (TurnsRows change))

-- tables made inside a transaction, from the one schema to the next
abbrev pub MakesTables : {S X : Type 0} → Ghosts S → Schema → Schema → Transaction S → Transaction S → Result X Error → Type 0
MakesTables g schema next = RunsInside g (Makes (TurnsSchema schema next))

-- the connection is open, and sees its last commit
pub record SeesCommit (s : State) : Type 0 where
  pub is_open : IsTrue s.is_open
  pub same : s.now ≡ s.committed

-- the connection is open, sees its last commit, and a crash leaves only that
pub record IsSettled (s : State) : Type 0 where
  pub is_open : IsTrue s.is_open
  pub same : s.now ≡ s.committed
  pub alone : (db : Trees) → s.may_leave db → db ≡ s.committed.trees

-- what the connection sees, and its last commit, are as they were; a fault of the disk may have shut it
pub record StaysSame (old new : State) : Type 0 where
  pub now_is : IsTrue new.is_open → new.now ≡ old.now
  pub committed_is : IsTrue new.is_open → new.committed ≡ old.committed

-- no fault of the disk is forgotten, and a crash leaves what it left before and nothing else
pub record LeavesAsBefore (old new : State) : Type 0 where
  pub faults : doubt old.is_clean ≤ doubt new.is_clean
  pub alone : HasCleanDisk new → (db : Trees) → new.may_leave db → old.may_leave db

-- no fault of the disk is forgotten, and a crash leaves what it left before, or such trees
pub record Outlives (Left : Trees → Type 0) (old new : State) : Type 0 where
  pub faults : doubt old.is_clean ≤ doubt new.is_clean
  pub crash : HasCleanDisk new → (db : Trees) → new.may_leave db → old.may_leave db ⊎ Left db

-- a table has one of our names, as the database compares them
abbrev pub has_our_name : Schema → Bool
has_our_name schema =
    is_some (table_named schema (codes "meta")) || is_some (table_named schema (codes "account")) || is_some (table_named schema (codes "script")) || is_some (table_named schema (codes "message"))
    || is_some (table_named schema (codes "copy")) || is_some (table_named schema (codes "outgoing")) || is_some (table_named schema (codes "reply")) || is_some (table_named schema (codes "notice"))

-- a query outside a transaction: none is begun, the limit of steps stays, and this is found
pub record Queries {S X E : Type 0} (g : Ghosts S) (Found : State → State → Result X E → Type 0) (old new : Held S) (result : Result X E) : Type 0 where
  pub ended : new.in_transaction ≡ false
  pub limit : new.step_limit ≡ old.step_limit
  pub finds : Found (state g old) (state g new) result

-- the answer to the query of this text, over a connection that, if it is open, sees its last commit
pub record AnswersQuery (sql : List ℕ) (params : Row) (old new : State) (result : Result (Vec Row Global) Error) : Type 0 where
  pub settled : IsTrue old.is_open → old.now ≡ old.committed
  pub ok : HasCleanDisk new → IfOk result (λ rows. Shown sql params old new rows.items)
  pub err : HasCleanDisk new → IfErr result (FailsToQuery sql params old new)
  pub survives : Survives old new (CommitsShowing sql params old)

-- a query of a database of such a schema, whatever its rows are: this holds of the answer; all stays as it was, and after Ok the last commit is seen
pub record AsksDatabase {X E : Type 0} (Known : Schema → Type 0) (P : X → Type 0) (old new : State) (result : Result X E) : Type 0 where
  pub found : Known old.now.schema → HasCleanDisk new → IfOk result P
  pub same : Known old.now.schema → HasCleanDisk new → StaysSame old new
  pub live : Known old.now.schema → HasCleanDisk new → OnOk result (SeesCommit new)
  pub crash : Known old.now.schema → Survives old new (λ _. ⊥)
