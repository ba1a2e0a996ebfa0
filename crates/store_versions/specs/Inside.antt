-- What the statements of a migration leave, inside their transaction.
use Rattle.std.specs.Prelude.{◌⊎◌, true, ℕ, List, [], Result, Vec, OnOk, IfOk, IfErr, IsTrue}
use Rattle.std.specs.declared.alloc.Global.{Global}
use Rattle.sqlite_value.specs.Order.{Row}
use Rattle.sqlite_schema.specs.declared.schema.Schema.{Schema}
use Rattle.sqlite.specs.declared.error.Error.{Error}
use Rattle.sqlite.specs.Effect.{Database}
use Rattle.sqlite.specs.State.{State, FailsToQuery, IsTooLate, KeepsCommit, Shown, Shows}
use Rattle.store_tables.specs.Rows.{Tables, HoldsTables}

-- the answer to the query of this text inside a transaction
abbrev pub Lists : List ℕ → State → State → Result (Vec Row Global) Error → Type 0
Lists sql old new result = IfOk result (λ rows. Shown sql [] old new rows.items) × IfErr result (λ e. FailsToQuery sql [] old new e ⊎ IsTooLate sql [] old new e)

-- the last commit stays, and after Ok this is found
abbrev pub FindsInside : {X : Type 0} → (X → Database → Database → Type 0) → State → State → Result X Error → Type 0
FindsInside Found old new result = KeepsCommit old new × IfOk result (λ x. Found x old.now new.now × Shows old new new.now old.committed true)

-- the last commit stays, and after Ok what is seen has turned like this, still inside the same transaction
abbrev pub TurnsInside : {X : Type 0} → (Database → Database → Type 0) → State → State → Result X Error → Type 0
TurnsInside Turned old new result = KeepsCommit old new × OnOk result (Turned old.now new.now × IsTrue new.in_transaction)

-- if the schema was the first one, it is then the next, which lacks a table: the others hold what they held
abbrev pub LosesTable : Schema → Schema → Database → Database → Type 0
LosesTable schema next old new = (tables : Tables) → HoldsTables schema old tables → HoldsTables next new tables
