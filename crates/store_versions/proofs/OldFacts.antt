-- What is computed of the schemas of version 1, and of the statements that move it to version 3.
use Rattle.std.proofs.Common.{◌≡◌, ℕ, ◌+◌, true, false, codes, List, [], ◌∷◌, Ok, refl}
use Rattle.sqlite_sql.specs.Term.{Term, col}
use Rattle.sqlite_schema.specs.declared.schema.Keys.TheVariants.{Enforced}
use Rattle.sqlite_schema.specs.declared.schema.Schema.{Schema}
use Rattle.sqlite_schema.specs.declared.command.Command.TheVariants.{DropTable, Select}
use Rattle.sqlite_schema.specs.Names.{same_name}
use Rattle.sqlite_catalog.specs.Change.{without_table}
use Rattle.sqlite_resolve.specs.Compile.{table_defined_by}
use Rattle.sqlite_tied.specs.Compute.{everything}
use Rattle.sqlite.specs.Does.{is_acted_on}
use Rattle.sqlite.specs.Listing.{understood, reads_listing}
use Rattle.sqlite.proofs.Callers.{IsPlain, command_of}
use Rattle.sqlite_schema.specs.declared.schema.Index.{Index}
use Rattle.sqlite_value.specs.Keys.{plain}
use Rattle.store_tables.specs.Forms.{over_table}
use Rattle.store_tables.specs.Schema.{schema_3, schema_6}
use Rattle.store_versions.specs.OldSchema.{old_copy, create_old_copy, old_copy_tree, oldest_copy_tree, old_schema, oldest_schema, oldest_4, oldest_5, oldest_6, select_old_copies, select_old_queue, select_old_replies, select_old_notices, oldest_outgoing_tree, oldest_reply_tree, oldest_notice_tree, drop_copy, drop_outgoing, drop_reply, drop_notice}
use Rattle.store_tables.proofs.VersionLemmas.{AsksVersion}
use Rattle.store_tables.specs.QueueTable.{outgoing}
use Rattle.store_tables.specs.ReplyTable.{reply}
use Rattle.store_tables.specs.NoticeTable.{notice}

-- it is the table that the text of version 1 made
pub old_copy_defined : table_defined_by create_old_copy ≡ Ok (old_copy 0)
unfolding understood everything
old_copy_defined = refl

-- without its copies it is today's schema as far as it goes
pub old_without_copy : without_table old_schema old_copy_tree ≡ schema_6
unfolding everything
old_without_copy = refl

pub oldest_without_copy : without_table oldest_4 oldest_copy_tree ≡ schema_3
unfolding everything
oldest_without_copy = refl

abbrev pub four_columns : List Term
four_columns = col 1 1 ∷ col 1 2 ∷ col 1 3 ∷ col 1 4 ∷ []

abbrev pub copy_names : List (List ℕ)
copy_names = codes "owner" ∷ codes "folder" ∷ codes "n" ∷ codes "message" ∷ []

-- what the text of a query without parameters is understood as: all rows of a table
pub record Selects (schema : Schema) (sql : List ℕ) (tree : ℕ) (project : List Term) (names : List (List ℕ)) : Type 0 where
  pub is : command_of (understood schema sql) ≡ Select (over_table tree [] project []) names
  pub plain : IsPlain (understood schema sql)
  pub unlisted : reads_listing schema sql ≡ false

pub selects_last : Selects old_schema select_old_copies old_copy_tree four_columns copy_names
unfolding understood everything
selects_last = record { is = refl; plain = (refl, refl); unlisted = refl }

pub selects_fourth : Selects oldest_schema select_old_copies oldest_copy_tree four_columns copy_names
unfolding understood everything
selects_fourth = record { is = refl; plain = (refl, refl); unlisted = refl }

-- what the text of a DROP TABLE is understood as, of the table at a place
pub record DropsAt (schema : Schema) (sql : List ℕ) (at : ℕ) : Type 0 where
  pub is : command_of (understood schema sql) ≡ DropTable at
  pub plain : IsPlain (understood schema sql)

pub drops_last : DropsAt old_schema drop_copy 6
unfolding understood everything
drops_last = record { is = refl; plain = (refl, refl) }

pub drops_fourth : DropsAt oldest_4 drop_copy 3
unfolding understood everything
drops_fourth = record { is = refl; plain = (refl, refl) }

-- no foreign key acts where its rows go
pub last_not_acted_on : is_acted_on old_schema Enforced (old_copy old_copy_tree) ≡ false
unfolding same_name everything
last_not_acted_on = refl

pub fourth_not_acted_on : is_acted_on oldest_4 Enforced (old_copy oldest_copy_tree) ≡ false
unfolding same_name everything
fourth_not_acted_on = refl

-- ---- the tables after the copies, where these are fourth

abbrev pub six_columns : List Term
six_columns = col 1 1 ∷ col 1 2 ∷ col 1 3 ∷ col 1 4 ∷ col 1 5 ∷ col 1 6 ∷ []

abbrev pub queue_names : List (List ℕ)
queue_names = codes "owner" ∷ codes "id" ∷ codes "kind" ∷ codes "sender" ∷ codes "target" ∷ codes "message" ∷ []

abbrev pub reply_names : List (List ℕ)
reply_names = codes "owner" ∷ codes "handle" ∷ codes "sender" ∷ codes "moment" ∷ []

abbrev pub notice_names : List (List ℕ)
notice_names = codes "owner" ∷ codes "id" ∷ codes "moment" ∷ codes "text" ∷ []

pub selects_queue : Selects oldest_schema select_old_queue oldest_outgoing_tree six_columns queue_names
unfolding understood everything
selects_queue = record { is = refl; plain = (refl, refl); unlisted = refl }

pub selects_replies : Selects oldest_schema select_old_replies oldest_reply_tree four_columns reply_names
unfolding understood everything
selects_replies = record { is = refl; plain = (refl, refl); unlisted = refl }

pub selects_notices : Selects oldest_schema select_old_notices oldest_notice_tree four_columns notice_names
unfolding understood everything
selects_notices = record { is = refl; plain = (refl, refl); unlisted = refl }

pub drops_notice : DropsAt oldest_schema drop_notice 6
unfolding understood everything
drops_notice = record { is = refl; plain = (refl, refl) }

pub drops_reply : DropsAt oldest_6 drop_reply 5
unfolding understood everything
drops_reply = record { is = refl; plain = (refl, refl) }

pub drops_outgoing : DropsAt oldest_5 drop_outgoing 4
unfolding understood everything
drops_outgoing = record { is = refl; plain = (refl, refl) }

pub without_notice : without_table oldest_schema oldest_notice_tree ≡ oldest_6
unfolding everything
without_notice = refl

pub without_reply : without_table oldest_6 oldest_reply_tree ≡ oldest_5
unfolding everything
without_reply = refl

pub without_outgoing : without_table oldest_5 oldest_outgoing_tree ≡ oldest_4
unfolding everything
without_outgoing = refl

pub notice_not_acted_on : is_acted_on oldest_schema Enforced (record notice { tree = oldest_notice_tree }) ≡ false
unfolding same_name everything
notice_not_acted_on = refl

pub reply_not_acted_on : is_acted_on oldest_6 Enforced (record reply { tree = oldest_reply_tree }) ≡ false
unfolding same_name everything
reply_not_acted_on = refl

pub outgoing_not_acted_on : is_acted_on oldest_5 Enforced (record outgoing { tree = oldest_outgoing_tree }) ≡ false
unfolding same_name everything
outgoing_not_acted_on = refl

-- ---- the version

pub version_last : AsksVersion old_schema
unfolding understood everything
version_last = record { is = refl; plain = (refl, refl); unlisted = refl }

pub version_fourth : AsksVersion oldest_schema
unfolding understood everything
version_fourth = record { is = refl; plain = (refl, refl); unlisted = refl }

-- ---- the indexes

abbrev key_named : List ℕ → ℕ → List ℕ → Index
key_named name table places = record { name = name; tree = table + 1; table = table; columns = places; order = plain; is_unique = true }

abbrev pub old_indexes : List Index
old_indexes =
    key_named (codes "sqlite_autoindex_meta_1") 0 (1 ∷ []) ∷ key_named (codes "sqlite_autoindex_account_1") 2 (1 ∷ []) ∷ key_named (codes "sqlite_autoindex_script_1") 4 (1 ∷ 2 ∷ [])
    ∷ key_named (codes "sqlite_autoindex_outgoing_1") 6 (1 ∷ 2 ∷ []) ∷ key_named (codes "sqlite_autoindex_reply_1") 8 (1 ∷ 2 ∷ 3 ∷ []) ∷ key_named (codes "sqlite_autoindex_notice_1") 10 (1 ∷ 2 ∷ [])
    ∷ key_named (codes "sqlite_autoindex_copy_1") 12 (1 ∷ 2 ∷ 3 ∷ []) ∷ []

abbrev pub oldest_indexes : List Index
oldest_indexes =
    key_named (codes "sqlite_autoindex_meta_1") 0 (1 ∷ []) ∷ key_named (codes "sqlite_autoindex_account_1") 2 (1 ∷ []) ∷ key_named (codes "sqlite_autoindex_script_1") 4 (1 ∷ 2 ∷ [])
    ∷ key_named (codes "sqlite_autoindex_copy_1") 6 (1 ∷ 2 ∷ 3 ∷ []) ∷ key_named (codes "sqlite_autoindex_outgoing_1") 8 (1 ∷ 2 ∷ []) ∷ key_named (codes "sqlite_autoindex_reply_1") 10 (1 ∷ 2 ∷ 3 ∷ [])
    ∷ key_named (codes "sqlite_autoindex_notice_1") 12 (1 ∷ 2 ∷ []) ∷ []

pub old_indexes_are : old_indexes ≡ old_schema.indexes
unfolding everything
old_indexes_are = refl

pub oldest_indexes_are : oldest_indexes ≡ oldest_schema.indexes
unfolding everything
oldest_indexes_are = refl
