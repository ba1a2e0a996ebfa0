-- What a keeper over memory holds.
use Prim.Native.Nat.{zero}
use Rattle.std.specs.Prelude.{ℕ, suc, ◌==◌, Option, Some, None, if◌then◌else◌}
use Rattle.sqlite_trees.specs.Tree.{no_trees}
use Rattle.sqlite_trees.specs.declared.memory.MemStore.{MemStore}
use Rattle.sqlite.specs.Effect.{Database}
use Rattle.sqlite.specs.Held.{Held, state}
use Rattle.sqlite.specs.Steps.{over_memory}
use Rattle.store_accounts.specs.declared.refusal.Refusal.{Refusal}
use Rattle.store_accounts.specs.declared.refusal.Refusal.TheVariants.{Store}
use Rattle.store_accounts.specs.Schema.{no_schema}

-- a database without tables
abbrev pub no_database : Database
no_database = record { schema = no_schema; trees = no_trees }

-- what a connection that is held sees; nothing while it is out
abbrev pub database_in : Option (Held MemStore) → Database
database_in (Some held) = (state over_memory held).now
database_in None = no_database

-- what is reported of the next close, if that many come before the chosen one: that it failed, if it is the chosen one
abbrev pub told_of_close : Option ℕ → Option Refusal
told_of_close None = None
told_of_close (Some calls) = if calls == 0 then Some Store else None

-- how many come before the chosen one after a close; none is chosen after it
abbrev pub left_after : Option ℕ → Option ℕ
left_after None = None
left_after (Some zero) = None
left_after (Some (suc calls)) = Some calls
