-- How a database of an earlier version becomes one of version 3 when it is opened.
use Rattle.std.specs.Prelude.{◌≡◌, ◌↔◌, ℤ, pos, Bool, false, Result, IfOk, OnOk, OnErr, IsTrue}
use Rattle.sqlite_trees.specs.Tree.{Trees}
use Rattle.sqlite_schema.specs.declared.schema.Schema.{Schema}
use Rattle.sqlite.specs.Effect.{Database}
use Rattle.sqlite.specs.State.{State, HasCleanDisk, Survives}
use Rattle.store_tables.specs.Connection.{SeesCommit, StaysSame}
use Rattle.store_versions.specs.declared.version.Older.{Older}
use Rattle.store_versions.specs.declared.version.Older.TheVariants.{Second, CopiesLast, CopiesFourth}
use Rattle.store_versions.specs.OldSchema.{IsOldSchema, IsOld}
use Rattle.store_versions.specs.SecondSchema.{IsSecondSchema, IsSecondVersion}
use Rattle.store_versions.specs.Migration.{TurnsNew, TurnsNewest}
use Rattle.store_versions.specs.Third.{TurnsThird}

-- the number of the version
abbrev pub version_of : Older → ℤ
version_of Second = pos 2
version_of CopiesLast = pos 1
version_of CopiesFourth = pos 1

-- the schema is of the version
abbrev pub IsOlderSchema : Older → Schema → Type 0
IsOlderSchema Second = IsSecondSchema
IsOlderSchema CopiesLast = IsOldSchema
IsOlderSchema CopiesFourth = IsOldSchema

-- a database of the version's tables, whose one row of the version says it
abbrev pub IsOlder : Older → Database → Type 0
IsOlder Second = IsSecondVersion
IsOlder CopiesLast = IsOld
IsOlder CopiesFourth = IsOld

-- a database of the version has turned into one of version 3
abbrev pub MigratesBy : Older → Database → Database → Type 0
MigratesBy Second = TurnsThird
MigratesBy CopiesLast = TurnsNew
MigratesBy CopiesFourth = TurnsNewest

-- after Ok it has
abbrev pub Migrates : {X E : Type 0} → Older → State → State → Result X E → Type 0
Migrates older old new result = HasCleanDisk new → OnOk result (MigratesBy older old.now new.now)

-- what a crash may leave during that, besides what it left before
pub record MayMigrate (older : Older) (s : State) (trees : Trees) : Type 0 where
  pub db : Database
  pub turned : MigratesBy older s.now db
  pub left : trees ≡ db.trees

-- and of a database that is opened: of one of the version
pub record MayOpenOld (older : Older) (s : State) (trees : Trees) : Type 0 where
  pub old : IsOlder older s.now
  pub migrated : MayMigrate older s trees

-- a database of the version's tables is opened: the answer says whether its row of the version says it; if it does, it has become version 3,
-- and its last commit is seen; if it doesn't, and after a refusal, all is as it was
pub record OpensOld {E : Type 0} (older : Older) (old new : State) (result : Result Bool E) : Type 0 where
  pub found : IsOlderSchema older old.now.schema → HasCleanDisk new → IfOk result (λ is. IsTrue is ↔ IsOlder older old.now)
  pub migrated : IsOlderSchema older old.now.schema → HasCleanDisk new → IfOk result (λ is. IsTrue is → MigratesBy older old.now new.now × SeesCommit new)
  pub not_old : IsOlderSchema older old.now.schema → HasCleanDisk new → IfOk result (λ is. is ≡ false → StaysSame old new)
  pub refused : IsOlderSchema older old.now.schema → HasCleanDisk new → OnErr result (StaysSame old new)
  pub crash : IsOlderSchema older old.now.schema → Survives old new (MayOpenOld older old)
