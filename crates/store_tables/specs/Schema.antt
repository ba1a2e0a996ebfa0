-- The tables of version 3, as the texts of their CREATE statements define them.
use Rattle.std.specs.Prelude.{◌≡◌, ◌+◌, true, false, None, List, [], ◌∷◌, ◌++◌}
use Rattle.sqlite_schema.specs.declared.schema.Column.{Column}
use Rattle.sqlite_schema.specs.declared.schema.Index.{Index}
use Rattle.sqlite_schema.specs.declared.schema.Reference.{Reference}
use Rattle.sqlite_schema.specs.declared.schema.Table.{Table}
use Rattle.sqlite_schema.specs.declared.schema.Schema.{Schema}
use Rattle.sqlite_catalog.specs.Change.{automatics, created}
use Rattle.sqlite_value.specs.declared.value.Value.TheVariants.{Null}
use Rattle.sqlite_value.specs.declared.keys.Collation.TheVariants.{Binary}
use Rattle.sqlite_value.specs.Keys.{plain}
use Rattle.store_tables.specs.declared.schema.Form.{Form}
use Rattle.store_tables.specs.declared.schema.Parents.{Parents}
use Rattle.store_tables.specs.declared.schema.Parents.TheVariants.{Nothing, Account, AccountAndMessage}
use Rattle.store_tables.specs.declared.schema.KeyForm.{KeyForm}
use Rattle.store_tables.specs.MetaTable.{meta_tree, meta}
use Rattle.store_tables.specs.AccountTable.{account_tree, account, to_account}
use Rattle.store_tables.specs.ScriptTable.{scripts_tree, script}
use Rattle.store_tables.specs.QueueTable.{outgoing_tree, outgoing}
use Rattle.store_tables.specs.ReplyTable.{reply_tree, reply}
use Rattle.store_tables.specs.NoticeTable.{notice_tree, notice}
use Rattle.store_tables.specs.MessageTable.{message_tree, message}
use Rattle.store_tables.specs.CopyTable.{copy_tree, copy, copy_message, to_message}

-- the tables, in the order in which `create` makes them
abbrev pub the_tables : List Table
the_tables = meta ∷ account ∷ script ∷ outgoing ∷ reply ∷ notice ∷ message ∷ copy ∷ []

-- the schema of an empty database
abbrev pub no_schema : Schema
no_schema = record { tables = []; indexes = []; views = [] }

-- the index of each table's key: its tree is the one after the table's
abbrev pub the_keys : List Index
the_keys =
    automatics meta 0 (meta_tree + 1) meta.uniques ++ automatics account 0 (account_tree + 1) account.uniques ++ automatics script 0 (scripts_tree + 1) script.uniques
    ++ automatics outgoing 0 (outgoing_tree + 1) outgoing.uniques ++ automatics reply 0 (reply_tree + 1) reply.uniques ++ automatics notice 0 (notice_tree + 1) notice.uniques
    ++ automatics message 0 (message_tree + 1) message.uniques ++ automatics copy 0 (copy_tree + 1) copy.uniques

-- these, and the index of the copies by their messages
abbrev pub the_indexes : List Index
the_indexes = the_keys ++ copy_message ∷ []

-- the schema of version 3
abbrev pub mail_schema : Schema
mail_schema = record { tables = the_tables; indexes = the_indexes; views = [] }

-- our tables, with that index
abbrev pub IsOurSchema : Schema → Type 0
IsOurSchema schema = schema ≡ mail_schema

-- the schema after the first tables are made
abbrev pub schema_1 : Schema
schema_1 = created no_schema (record meta { tree = 0 })

abbrev pub schema_2 : Schema
schema_2 = created schema_1 (record account { tree = 0 })

abbrev pub schema_3 : Schema
schema_3 = created schema_2 (record script { tree = 0 })

abbrev pub schema_4 : Schema
schema_4 = created schema_3 (record outgoing { tree = 0 })

abbrev pub schema_5 : Schema
schema_5 = created schema_4 (record reply { tree = 0 })

-- the schema after the six tables that version 1 has too
abbrev pub schema_6 : Schema
schema_6 = created schema_5 (record notice { tree = 0 })

abbrev pub schema_7 : Schema
schema_7 = created schema_6 (record message { tree = 0 })

-- all tables, before the index of the copies by their messages
abbrev pub schema_8 : Schema
schema_8 = record { tables = the_tables; indexes = the_keys; views = [] }

-- the column of this form, without a default
abbrev pub column_of : Form → Column
column_of form = record { name = form.name.now; kind = form.kind; is_strict = true; not_null = form.not_null; default = Null; collation = Binary }

abbrev pub references_to : Parents → List Reference
references_to Nothing = []
references_to Account = to_account
references_to AccountAndMessage = to_message

-- no INTEGER PRIMARY KEY, CHECK, default that is no literal, or AUTOINCREMENT
abbrev pub HasNoOtherRule : Table → Type 0
HasNoOtherRule table = (table.key ≡ None) × (table.checks ≡ []) × (table.computed ≡ []) × (table.stamps ≡ record { places = []; terms = []; formats = [] }) × (table.is_counted ≡ false)

-- the index of this form, of a table's one key
abbrev pub index_of : KeyForm → Index
index_of form = record { name = form.name.now; tree = form.tree; table = form.table; columns = form.places.now; order = plain; is_unique = true }
