-- The row of the version, where that is an earlier one, and how it goes.
use Rattle.std.proofs.Common.{◌≡◌, ◌↔◌, ◌+◌, ℕ, ℤ, pos, true, [], ◌∷◌, Ok, refl, sym, subst, inl, inr}
use Rattle.sqlite_value.specs.declared.value.Value.TheVariants.{Int}
use Rattle.sqlite_value.specs.Order.{Row}
use Rattle.sqlite_value.specs.Keys.{first_key}
use Rattle.sqlite_schema.specs.declared.command.Command.TheVariants.{Delete}
use Rattle.sqlite_schema.specs.declared.schema.Index.{Index}
use Rattle.sqlite_schema.specs.declared.schema.Schema.{Schema}
use Rattle.sqlite_schema.specs.Rules.{agree}
use Rattle.sqlite_catalog.specs.Listing.{automatic}
use Rattle.sqlite_sql.specs.Term.{col}
use Rattle.sqlite_tied.specs.Compute.{everything}
use Rattle.sqlite.specs.Effect.{Database}
use Rattle.sqlite.specs.Listing.{understood}
use Rattle.sqlite.specs.State.{State, Executes}
use Rattle.sqlite.proofs.Callers.{IsPlain, command_of}
use Rattle.store_tables.specs.Forms.{over_table}
use Rattle.store_tables.specs.Rows.{has_key, rows_removed}
use Rattle.store_tables.specs.Schema.{mail_schema}
use Rattle.store_tables.specs.MetaTable.{meta, meta_tree, version_key}
use Rattle.store_tables.specs.Connection.{TurnsRows}
use Rattle.store_tables.proofs.TextFacts.{by_one}
use Rattle.store_tables.proofs.SchemaFacts.{no_works}
use Rattle.store_tables.proofs.StepLemmas.{on_delete, delete_holds}
use Rattle.store_tables.proofs.VersionLemmas.{AsksVersion, SaysVersion}
use Rattle.store_versions.specs.OldSchema.{IsOldSchema, IsOld, delete_version}
use Rattle.store_versions.specs.SecondSchema.{IsSecondSchema, IsSecondVersion}
use Rattle.store_versions.specs.declared.version.Older.{Older}
use Rattle.store_versions.specs.declared.version.Older.TheVariants.{Second, CopiesLast, CopiesFourth}
use Rattle.store_versions.specs.Upgrade.{IsOlderSchema, IsOlder, version_of}
use Rattle.store_versions.proofs.OldFacts.{version_last, version_fourth}
use Rattle.store_versions.proofs.SecondFacts.{version_second, version_unindexed}

-- the query for it is understood in either order of the tables
asks_old : (schema : Schema) → IsOldSchema schema → AsksVersion schema
asks_old schema old = elim old [ inl is ↦ subst AsksVersion (sym is) version_last | inr is ↦ subst AsksVersion (sym is) version_fourth ]

old_says : (db : Database) → IsOldSchema db.schema → IsOld db ↔ SaysVersion (pos 1) db.trees
old_says db old = (λ h. record { row = h.row; only = h.only; says = h.says }, λ h. record { schema = old; row = h.row; only = h.only; says = h.says })

-- in version 2, with the index of the copies or without it
asks_second : (schema : Schema) → IsSecondSchema schema → AsksVersion schema
asks_second schema second = elim second [ inl is ↦ subst AsksVersion (sym is) version_second | inr is ↦ subst AsksVersion (sym is) version_unindexed ]

second_says : (db : Database) → IsSecondSchema db.schema → IsSecondVersion db ↔ SaysVersion (pos 2) db.trees
second_says db second = (λ h. record { row = h.row; only = h.only; says = h.says }, λ h. record { schema = second; row = h.row; only = h.only; says = h.says })

-- in either version
pub asks_older : (older : Older) (schema : Schema) → IsOlderSchema older schema → AsksVersion schema
asks_older Second schema is = asks_second schema is
asks_older CopiesLast schema is = asks_old schema is
asks_older CopiesFourth schema is = asks_old schema is

pub older_says : (older : Older) (db : Database) → IsOlderSchema older db.schema → IsOlder older db ↔ SaysVersion (version_of older) db.trees
older_says Second db is = second_says db is
older_says CopiesLast db is = old_says db is
older_says CopiesFourth db is = old_says db is

delete_version_is : command_of (understood mail_schema delete_version) ≡ Delete 0 (over_table meta_tree by_one (col 1 0 ∷ []) [])
unfolding understood everything
delete_version_is = refl

delete_version_plain : IsPlain (understood mail_schema delete_version)
unfolding understood everything
delete_version_plain = (refl, refl)

abbrev meta_index : Index
meta_index = automatic meta 0 (1 ∷ []) (meta_tree + 1)

version_agrees : (n : ℤ) (cells : Row) → has_key version_key cells ≡ true → agree meta_index.order meta_index.columns (Int n ∷ cells) (0 ∷ []) version_key ≡ true
unfolding first_key
version_agrees n cells h = h

pub removes_version : (old new : State) (count : ℕ) → Executes delete_version version_key old new (Ok count) → TurnsRows (rows_removed meta_tree version_key) old.now new.now
removes_version old new count ran tables h =
    let on = on_delete mail_schema delete_version version_key old new tables h delete_version_plain count ran 0 meta refl _ delete_version_is in
    delete_holds mail_schema no_works meta.name meta_tree meta.primary meta.references meta.columns version_key old new tables h (inl refl) meta_index (inl refl) refl version_key (0 ∷ [])
    version_agrees by_one (λ n cells. refl) 0 on.0 on.1
