-- What is computed of the schemas of version 2, and of the statements that move it to version 3.
use Rattle.std.proofs.Common.{◌≡◌, false, codes, List, [], ◌∷◌, ℕ, Ok, refl}
use Rattle.sqlite_schema.specs.declared.schema.Keys.TheVariants.{Enforced}
use Rattle.sqlite_schema.specs.Names.{same_name}
use Rattle.sqlite_catalog.specs.Change.{created, indexed, without_table}
use Rattle.sqlite_resolve.specs.Compile.{table_defined_by}
use Rattle.sqlite_tied.specs.Compute.{everything}
use Rattle.sqlite.specs.Does.{is_acted_on}
use Rattle.sqlite.specs.Listing.{understood}
use Rattle.store_tables.specs.Schema.{schema_7}
use Rattle.store_tables.specs.CopyTable.{copy_tree, copy_message}
use Rattle.store_tables.proofs.VersionLemmas.{AsksVersion}
use Rattle.store_versions.specs.OldSchema.{drop_copy}
use Rattle.store_versions.specs.SecondSchema.{second_copy, create_second_copy, second_schema, second_unindexed_schema, select_second_copies}
use Rattle.store_versions.proofs.OldFacts.{Selects, DropsAt, four_columns}

-- it is the table that the text of version 2 made, after those of today, and so was its index
pub second_copy_defined : table_defined_by create_second_copy ≡ Ok (record second_copy { tree = 0 })
unfolding understood everything
second_copy_defined = refl

pub second_created : created schema_7 (record second_copy { tree = 0 }) ≡ second_unindexed_schema
unfolding everything
second_created = refl

pub second_indexed : indexed second_unindexed_schema second_copy (record copy_message { tree = 0 }) ≡ second_schema
second_indexed = refl

-- without its copies it is today's schema as far as it goes
pub second_without_copy : without_table second_schema copy_tree ≡ schema_7
unfolding everything
second_without_copy = refl

pub unindexed_without_copy : without_table second_unindexed_schema copy_tree ≡ schema_7
unfolding everything
unindexed_without_copy = refl

abbrev pub second_names : List (List ℕ)
second_names = codes "owner" ∷ codes "folder" ∷ codes "n" ∷ codes "id" ∷ []

pub selects_second : Selects second_schema select_second_copies copy_tree four_columns second_names
unfolding understood everything
selects_second = record { is = refl; plain = (refl, refl); unlisted = refl }

pub selects_unindexed : Selects second_unindexed_schema select_second_copies copy_tree four_columns second_names
unfolding understood everything
selects_unindexed = record { is = refl; plain = (refl, refl); unlisted = refl }

pub drops_second : DropsAt second_schema drop_copy 7
unfolding understood everything
drops_second = record { is = refl; plain = (refl, refl) }

pub drops_unindexed : DropsAt second_unindexed_schema drop_copy 7
unfolding understood everything
drops_unindexed = record { is = refl; plain = (refl, refl) }

-- no foreign key acts where its rows go
pub second_not_acted_on : is_acted_on second_schema Enforced second_copy ≡ false
unfolding same_name everything
second_not_acted_on = refl

pub unindexed_not_acted_on : is_acted_on second_unindexed_schema Enforced second_copy ≡ false
unfolding same_name everything
unindexed_not_acted_on = refl

-- ---- the version

pub version_second : AsksVersion second_schema
unfolding understood everything
version_second = record { is = refl; plain = (refl, refl); unlisted = refl }

pub version_unindexed : AsksVersion second_unindexed_schema
unfolding understood everything
version_unindexed = record { is = refl; plain = (refl, refl); unlisted = refl }
