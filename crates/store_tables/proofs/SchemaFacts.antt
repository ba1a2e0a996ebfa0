-- What is computed of the schema: the texts define its tables, and no foreign key acts.
use Rattle.std.proofs.Common.{◌≡◌, ◌==◌, ◌+◌, ℕ, true, false, cond, codes, List, [], ◌∷◌, length, Ok, refl, inl, inr}
use Rattle.std.specs.List.{flat_map, filter_map}
use Rattle.sqlite_value.specs.Order.{Row}
use Rattle.sqlite_value.specs.Keys.{plain}
use Rattle.sqlite_schema.specs.declared.schema.Index.{Index}
use Rattle.sqlite_schema.specs.declared.schema.Keys.TheVariants.{Enforced}
use Rattle.sqlite_schema.specs.declared.command.Command.TheVariants.{CreateTable, CreateIndex}
use Rattle.sqlite_schema.specs.Rules.{parent_key}
use Rattle.sqlite_rules.specs.Lists.{Has}
use Rattle.sqlite_rules.specs.Action.{works, work_by, pairs, deed_of}
use Rattle.sqlite_catalog.specs.Change.{created, indexed}
use Rattle.sqlite_resolve.specs.Compile.{table_defined_by, index_defined_by}
use Rattle.sqlite_tied.specs.Compute.{everything}
use Rattle.sqlite.specs.Listing.{understood}
use Rattle.sqlite.proofs.Callers.{IsPlain, command_of, statement_of}
use Rattle.store_tables.specs.Schema.{no_schema, the_keys, mail_schema, schema_1, schema_2, schema_3, schema_4, schema_5, schema_6, schema_7, schema_8}
use Rattle.store_tables.specs.MetaTable.{meta, create_meta, meta_tree}
use Rattle.store_tables.specs.AccountTable.{account, create_account, account_tree}
use Rattle.store_tables.specs.ScriptTable.{script, create_script, scripts_tree}
use Rattle.store_tables.specs.QueueTable.{outgoing, create_outgoing, outgoing_tree}
use Rattle.store_tables.specs.ReplyTable.{reply, create_reply, reply_tree}
use Rattle.store_tables.specs.NoticeTable.{notice, create_notice, notice_tree}
use Rattle.store_tables.specs.MessageTable.{message, create_message, message_tree}
use Rattle.store_tables.specs.CopyTable.{copy, create_copy, copy_message, create_copy_message, copy_tree}

-- where each table stands in the schema
pub meta_listed : Has mail_schema.tables meta
meta_listed = inl refl

pub account_listed : Has mail_schema.tables account
account_listed = inr (inl refl)

pub script_listed : Has mail_schema.tables script
script_listed = inr (inr (inl refl))

pub outgoing_listed : Has mail_schema.tables outgoing
outgoing_listed = inr (inr (inr (inl refl)))

pub reply_listed : Has mail_schema.tables reply
reply_listed = inr (inr (inr (inr (inl refl))))

pub notice_listed : Has mail_schema.tables notice
notice_listed = inr (inr (inr (inr (inr (inl refl)))))

pub message_listed : Has mail_schema.tables message
message_listed = inr (inr (inr (inr (inr (inr (inl refl))))))

pub copy_listed : Has mail_schema.tables copy
copy_listed = inr (inr (inr (inr (inr (inr (inr (inl refl)))))))

pub no_works : (depth tree : ℕ) (olds news : List Row) → works mail_schema Enforced depth tree olds news ≡ []
no_works depth tree olds news =
    elim (length news == 0) as (λ b. flat_map (λ child. filter_map (λ ref. work_by depth tree (pairs olds news) child ref (deed_of Enforced b (cond b ref.on_delete ref.on_update)) (parent_key mail_schema.tables ref)) child.references) mail_schema.tables ≡ [])
    [ true ↦ refl | false ↦ refl ]

pub meta_defined : table_defined_by create_meta ≡ Ok (record meta { tree = 0 })
unfolding understood everything
meta_defined = refl

pub account_defined : table_defined_by create_account ≡ Ok (record account { tree = 0 })
unfolding understood everything
account_defined = refl

pub script_defined : table_defined_by create_script ≡ Ok (record script { tree = 0 })
unfolding understood everything
script_defined = refl

pub message_defined : table_defined_by create_message ≡ Ok (record message { tree = 0 })
unfolding understood everything
message_defined = refl

pub copy_defined : table_defined_by create_copy ≡ Ok (record copy { tree = 0 })
unfolding understood everything
copy_defined = refl

pub outgoing_defined : table_defined_by create_outgoing ≡ Ok (record outgoing { tree = 0 })
unfolding understood everything
outgoing_defined = refl

pub reply_defined : table_defined_by create_reply ≡ Ok (record reply { tree = 0 })
unfolding understood everything
reply_defined = refl

pub notice_defined : table_defined_by create_notice ≡ Ok (record notice { tree = 0 })
unfolding understood everything
notice_defined = refl

pub meta_creates : (command_of (understood no_schema create_meta) ≡ CreateTable) × (statement_of create_meta (understood no_schema create_meta) ≡ create_meta) × IsPlain (understood no_schema create_meta)
unfolding understood everything
meta_creates = (refl, refl, (refl, refl))

pub account_creates : (command_of (understood schema_1 create_account) ≡ CreateTable) × (statement_of create_account (understood schema_1 create_account) ≡ create_account) × IsPlain (understood schema_1 create_account)
unfolding understood everything
account_creates = (refl, refl, (refl, refl))

pub script_creates : (command_of (understood schema_2 create_script) ≡ CreateTable) × (statement_of create_script (understood schema_2 create_script) ≡ create_script) × IsPlain (understood schema_2 create_script)
unfolding understood everything
script_creates = (refl, refl, (refl, refl))

pub message_creates : (command_of (understood schema_6 create_message) ≡ CreateTable) × (statement_of create_message (understood schema_6 create_message) ≡ create_message) × IsPlain (understood schema_6 create_message)
unfolding understood everything
message_creates = (refl, refl, (refl, refl))

pub copy_creates : (command_of (understood schema_7 create_copy) ≡ CreateTable) × (statement_of create_copy (understood schema_7 create_copy) ≡ create_copy) × IsPlain (understood schema_7 create_copy)
unfolding understood everything
copy_creates = (refl, refl, (refl, refl))

pub outgoing_creates : (command_of (understood schema_3 create_outgoing) ≡ CreateTable) × (statement_of create_outgoing (understood schema_3 create_outgoing) ≡ create_outgoing) × IsPlain (understood schema_3 create_outgoing)
unfolding understood everything
outgoing_creates = (refl, refl, (refl, refl))

pub reply_creates : (command_of (understood schema_4 create_reply) ≡ CreateTable) × (statement_of create_reply (understood schema_4 create_reply) ≡ create_reply) × IsPlain (understood schema_4 create_reply)
unfolding understood everything
reply_creates = (refl, refl, (refl, refl))

pub notice_creates : (command_of (understood schema_5 create_notice) ≡ CreateTable) × (statement_of create_notice (understood schema_5 create_notice) ≡ create_notice) × IsPlain (understood schema_5 create_notice)
unfolding understood everything
notice_creates = (refl, refl, (refl, refl))

-- the index of the copies by their messages
pub copy_message_defined : index_defined_by copy create_copy_message ≡ Ok (record copy_message { tree = 0 })
unfolding understood everything
copy_message_defined = refl

pub copy_message_creates : (command_of (understood schema_8 create_copy_message) ≡ CreateIndex 7) × (statement_of create_copy_message (understood schema_8 create_copy_message) ≡ create_copy_message)
    × IsPlain (understood schema_8 create_copy_message)
unfolding understood everything
copy_message_creates = (refl, refl, (refl, refl))

pub copy_message_added : indexed schema_8 copy (record copy_message { tree = 0 }) ≡ mail_schema
copy_message_added = refl

pub all_created : created schema_7 (record copy { tree = 0 }) ≡ schema_8
unfolding everything
all_created = refl

abbrev index_named : List ℕ → ℕ → List ℕ → Index
index_named name table places = record { name = name; tree = table + 1; table = table; columns = places; order = plain; is_unique = true }

abbrev pub named_indexes : List Index
named_indexes =
    index_named (codes "sqlite_autoindex_meta_1") meta_tree (1 ∷ []) ∷ index_named (codes "sqlite_autoindex_account_1") account_tree (1 ∷ [])
    ∷ index_named (codes "sqlite_autoindex_script_1") scripts_tree (1 ∷ 2 ∷ []) ∷ index_named (codes "sqlite_autoindex_outgoing_1") outgoing_tree (1 ∷ 2 ∷ [])
    ∷ index_named (codes "sqlite_autoindex_reply_1") reply_tree (1 ∷ 2 ∷ 3 ∷ []) ∷ index_named (codes "sqlite_autoindex_notice_1") notice_tree (1 ∷ 2 ∷ [])
    ∷ index_named (codes "sqlite_autoindex_message_1") message_tree (1 ∷ 2 ∷ []) ∷ index_named (codes "sqlite_autoindex_copy_1") copy_tree (1 ∷ 2 ∷ 3 ∷ []) ∷ []

pub indexes_are : named_indexes ≡ the_keys
unfolding everything
indexes_are = refl
