-- Opening a database of any version.
use Rattle.std.specs.Prelude.{◌≡◌, ◌⊎◌, ◌↔◌, Bool, false, Result, IfOk, OnErr, IsTrue}
use Rattle.sqlite_trees.specs.Tree.{Trees}
use Rattle.sqlite_schema.specs.declared.schema.Schema.{Schema}
use Rattle.sqlite.specs.Effect.{Database}
use Rattle.sqlite.specs.State.{State, HasCleanDisk, Survives}
use Rattle.store_tables.specs.Schema.{mail_schema, IsOurSchema}
use Rattle.store_tables.specs.Connection.{SeesCommit, StaysSame}
use Rattle.store_tables.specs.Ours.{IsOurs, IsOpenedAs}
use Rattle.store_versions.specs.declared.opening.Layout.{Layout}
use Rattle.store_versions.specs.declared.opening.Layout.TheVariants.{Current, Second, CopiesLast, CopiesFourth}
use Rattle.store_versions.specs.OldSchema.{old_schema, oldest_schema, IsOldSchema, IsOld}
use Rattle.store_versions.specs.SecondSchema.{IsSecondSchema, IsSecondVersion}
use Rattle.store_versions.specs.Migration.{TurnsNew, TurnsNewest}
use Rattle.store_versions.specs.Third.{TurnsThird}

-- a schema of ours that opening changes: of version 2 or of version 1
abbrev pub IsBehind : Schema → Type 0
IsBehind schema = IsSecondSchema schema ⊎ IsOldSchema schema

-- our tables, of any version
abbrev pub IsKnownSchema : Schema → Type 0
IsKnownSchema schema = IsOurSchema schema ⊎ IsBehind schema

-- a database of our tables whose one row of the version says which version they are of
abbrev pub IsKnown : Database → Type 0
IsKnown db = IsOurs db ⊎ (IsSecondVersion db ⊎ IsOld db)

-- the schema's tables have this layout
abbrev pub LiesAs : Layout → Schema → Type 0
LiesAs Current schema = IsOurSchema schema
LiesAs Second schema = IsSecondSchema schema
LiesAs CopiesLast schema = schema ≡ old_schema
LiesAs CopiesFourth schema = schema ≡ oldest_schema

-- how opening changes a database whose tables have this layout
abbrev pub LayoutBecomes : Layout → Database → Database → Type 0
LayoutBecomes Current = IsOpenedAs
LayoutBecomes Second = TurnsThird
LayoutBecomes CopiesLast = TurnsNew
LayoutBecomes CopiesFourth = TurnsNewest

-- what a crash may leave of a database that is opened, besides what it left before: if opening changes it, the result of that
pub record MayBecome (layout : Layout) (s : State) (trees : Trees) : Type 0 where
  pub known : IsKnown s.now
  pub behind : IsBehind s.now.schema
  pub db : Database
  pub became : LayoutBecomes layout s.now db
  pub left : trees ≡ db.trees

-- a database whose tables have this layout is opened: the answer says whether the row of the version is theirs; if it is, the database is of
-- version 3 then, and its last commit is seen; if it isn't, after a refusal, and if nothing was to be done, all is as it was
pub record OpensKnown {E : Type 0} (layout : Layout) (old new : State) (result : Result Bool E) : Type 0 where
  pub found : LiesAs layout old.now.schema → HasCleanDisk new → IfOk result (λ is. IsTrue is ↔ IsKnown old.now)
  pub opened : LiesAs layout old.now.schema → HasCleanDisk new → IfOk result (λ is. IsTrue is → LayoutBecomes layout old.now new.now × SeesCommit new)
  pub unknown : LiesAs layout old.now.schema → HasCleanDisk new → IfOk result (λ is. is ≡ false → StaysSame old new)
  pub refused : LiesAs layout old.now.schema → HasCleanDisk new → OnErr result (StaysSame old new)
  pub unchanged : LiesAs layout old.now.schema → HasCleanDisk new → old.now.schema ≡ mail_schema → StaysSame old new
  pub crash : LiesAs layout old.now.schema → Survives old new (MayBecome layout old)
