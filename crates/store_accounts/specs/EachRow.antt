-- A query whose rows are read one by one.
use Rattle.std.specs.Prelude.{◌≡◌, ℕ, List, map, Result, IfOk, IfErr}
use Rattle.sqlite_value.specs.Order.{Row}
use Rattle.sqlite.specs.State.{State, HasCleanDisk, Shown}
use Rattle.store_accounts.specs.declared.refusal.Refusal.{Refusal}
use Rattle.store_accounts.specs.Refusals.{IsTransient}
use Rattle.store_accounts.specs.Promises.{HasOurTables, KeepsTables}

-- the values show what is read of the rows that the query of this text shows, each of the row at its position
abbrev pub AreOfRows : {X : Type 0} → (X → Row) → (Row → Row) → List ℕ → Row → State → State → List X → Type 0
AreOfRows shows cells sql params old new all = (rows : List Row) × Shown sql params old new rows × (map shows all ≡ map cells rows)

-- the query of this text: over our tables its values are of its rows; all stays, and it is refused only without visible cause
pub record ReadsEach {X : Type 0} (shows : X → Row) (cells : Row → Row) (sql : List ℕ) (params : Row) (old new : State) (result : Result (List X) Refusal) : Type 0 where
  pub found : HasCleanDisk new → HasOurTables old.now → IfOk result (AreOfRows shows cells sql params old new)
  pub keeps : KeepsTables old new result
  pub named : IfErr result IsTransient
