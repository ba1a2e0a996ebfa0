-- What each text is understood as, under the schema.
use Rattle.std.proofs.Common.{◌≡◌, ℕ, pos, false, List, [], ◌∷◌, codes, refl}
use Rattle.sqlite_value.specs.declared.value.Value.TheVariants.{Null, Int, Text}
use Rattle.sqlite_value.specs.declared.keys.Collation.TheVariants.{Binary}
use Rattle.sqlite_value.specs.declared.keys.Key.{Key}
use Rattle.sqlite_value.specs.Keys.{ascending}
use Rattle.sqlite_sql.specs.Term.{Term, lit, col, op1, op2}
use Rattle.sqlite_sql.specs.declared.ops.BinaryOp.TheVariants.{Compare}
use Rattle.sqlite_sql.specs.declared.ops.UnaryOp.TheVariants.{Length}
use Rattle.sqlite_sql.specs.declared.ops.CompareOp.TheVariants.{Eq, Ne, Gt, Le}
use Rattle.sqlite_schema.specs.declared.command.Source.TheVariants.{Values}
use Rattle.sqlite_schema.specs.declared.command.Command.TheVariants.{Insert, Update, Delete, Select}
use Rattle.sqlite_tied.specs.Compute.{everything}
use Rattle.sqlite.specs.Listing.{understood, reads_listing}
use Rattle.sqlite.proofs.Callers.{IsPlain, command_of}
use Rattle.store_tables.specs.Forms.{equals, over_table, over_two, first_over, nth_over}
use Rattle.store_tables.specs.Schema.{mail_schema}
use Rattle.store_tables.specs.MetaTable.{insert_version, select_version, meta_tree}
use Rattle.store_tables.specs.AccountTable.{insert_account, update_active, update_counters, update_address, update_password, update_rounds, select_account, select_counters, account_tree}
use Rattle.store_tables.specs.ScriptTable.{insert_script, delete_script, delete_scripts, select_names, select_script, scripts_tree}
use Rattle.store_tables.specs.MessageTable.{insert_message, delete_message, delete_messages, select_message, message_tree}
use Rattle.store_tables.specs.CopyTable.{insert_copy, delete_copy, delete_copies, select_later_number, select_later_folder, select_later_owner, select_nth, select_numbers, select_other, select_folders, select_folder, copy_tree}
use Rattle.store_tables.specs.QueueTable.{outgoing_tree, select_heads, select_later_id, select_later_queue, select_outgoing, select_queue, insert_outgoing, delete_outgoing, delete_queue}
use Rattle.store_tables.specs.NoticeTable.{notice_tree, select_notices, insert_notice, delete_notices, delete_early_notices}
use Rattle.store_tables.specs.ReplyTable.{reply_tree, insert_reply, delete_reply, select_moment, select_replies}

abbrev pub by_one : List Term
by_one = equals 1 0 ∷ []

abbrev pub by_two : List Term
by_two = equals 1 0 ∷ equals 2 1 ∷ []

abbrev pub version_terms : List Term
version_terms = lit (Text (codes "version")) ∷ lit (Int (pos 3)) ∷ []

pub insert_version_is : command_of (understood mail_schema insert_version) ≡ Insert 0 (Values (lit Null ∷ version_terms) 3)
unfolding understood everything
insert_version_is = refl

pub insert_version_plain : IsPlain (understood mail_schema insert_version)
unfolding understood everything
insert_version_plain = (refl, refl)

abbrev pub account_terms : List Term
account_terms = col 0 0 ∷ col 0 1 ∷ col 0 2 ∷ col 0 3 ∷ col 0 4 ∷ lit Null ∷ lit (Int (pos 1)) ∷ lit (Int (pos 1)) ∷ lit (Int (pos 1)) ∷ []

pub insert_account_is : command_of (understood mail_schema insert_account) ≡ Insert 1 (Values (lit Null ∷ account_terms) 10)
unfolding understood everything
insert_account_is = refl

pub insert_account_plain : IsPlain (understood mail_schema insert_account)
unfolding understood everything
insert_account_plain = (refl, refl)

abbrev pub active_columns : List Term
active_columns = col 1 0 ∷ col 1 0 ∷ col 1 1 ∷ col 1 2 ∷ col 1 3 ∷ col 1 4 ∷ col 1 5 ∷ col 0 1 ∷ col 1 7 ∷ col 1 8 ∷ col 1 9 ∷ []

pub update_active_is : command_of (understood mail_schema update_active) ≡ Update 1 (over_table account_tree by_one active_columns [])
unfolding understood everything
update_active_is = refl

pub update_active_plain : IsPlain (understood mail_schema update_active)
unfolding understood everything
update_active_plain = (refl, refl)

abbrev pub counter_columns : List Term
counter_columns = col 1 0 ∷ col 1 0 ∷ col 1 1 ∷ col 1 2 ∷ col 1 3 ∷ col 1 4 ∷ col 1 5 ∷ col 1 6 ∷ col 0 1 ∷ col 0 2 ∷ col 0 3 ∷ []

pub update_counters_is : command_of (understood mail_schema update_counters) ≡ Update 1 (over_table account_tree by_one counter_columns [])
unfolding understood everything
update_counters_is = refl

pub update_counters_plain : IsPlain (understood mail_schema update_counters)
unfolding understood everything
update_counters_plain = (refl, refl)

abbrev pub three_terms : List Term
three_terms = col 0 0 ∷ col 0 1 ∷ col 0 2 ∷ []

pub insert_script_is : command_of (understood mail_schema insert_script) ≡ Insert 2 (Values (lit Null ∷ three_terms) 4)
unfolding understood everything
insert_script_is = refl

pub insert_script_plain : IsPlain (understood mail_schema insert_script)
unfolding understood everything
insert_script_plain = (refl, refl)

pub delete_script_is : command_of (understood mail_schema delete_script) ≡ Delete 2 (over_table scripts_tree by_two (col 1 0 ∷ []) [])
unfolding understood everything
delete_script_is = refl

pub delete_script_plain : IsPlain (understood mail_schema delete_script)
unfolding understood everything
delete_script_plain = (refl, refl)

abbrev pub four_terms : List Term
four_terms = col 0 0 ∷ col 0 1 ∷ col 0 2 ∷ col 0 3 ∷ []

abbrev pub five_terms : List Term
five_terms = col 0 0 ∷ col 0 1 ∷ col 0 2 ∷ col 0 3 ∷ col 0 4 ∷ []

pub insert_message_is : command_of (understood mail_schema insert_message) ≡ Insert 6 (Values (lit Null ∷ three_terms) 4)
unfolding understood everything
insert_message_is = refl

pub insert_message_plain : IsPlain (understood mail_schema insert_message)
unfolding understood everything
insert_message_plain = (refl, refl)

pub insert_copy_is : command_of (understood mail_schema insert_copy) ≡ Insert 7 (Values (lit Null ∷ five_terms) 6)
unfolding understood everything
insert_copy_is = refl

pub insert_copy_plain : IsPlain (understood mail_schema insert_copy)
unfolding understood everything
insert_copy_plain = (refl, refl)

abbrev pub account_shown : List Term
account_shown = col 1 2 ∷ col 1 3 ∷ col 1 4 ∷ col 1 5 ∷ col 1 6 ∷ []

pub select_account_is : command_of (understood mail_schema select_account) ≡ Select (over_table account_tree by_one account_shown []) (codes "address" ∷ codes "salt" ∷ codes "rounds" ∷ codes "digest" ∷ codes "active" ∷ [])
unfolding understood everything
select_account_is = refl

pub select_account_plain : IsPlain (understood mail_schema select_account) × (reads_listing mail_schema select_account ≡ false)
unfolding understood everything
select_account_plain = ((refl, refl), refl)

pub select_version_is : command_of (understood mail_schema select_version) ≡ Select (over_table meta_tree by_one (col 1 2 ∷ []) []) (codes "value" ∷ [])
unfolding understood everything
select_version_is = refl

pub select_version_plain : IsPlain (understood mail_schema select_version) × (reads_listing mail_schema select_version ≡ false)
unfolding understood everything
select_version_plain = ((refl, refl), refl)

abbrev pub counters_shown : List Term
counters_shown = col 1 7 ∷ col 1 8 ∷ col 1 9 ∷ []

pub select_counters_is : command_of (understood mail_schema select_counters) ≡ Select (over_table account_tree by_one counters_shown []) (codes "next_copy" ∷ codes "next_out" ∷ codes "next_notice" ∷ [])
unfolding understood everything
select_counters_is = refl

pub select_counters_plain : IsPlain (understood mail_schema select_counters) × (reads_listing mail_schema select_counters ≡ false)
unfolding understood everything
select_counters_plain = ((refl, refl), refl)

pub select_names_is : command_of (understood mail_schema select_names) ≡ Select (over_table scripts_tree by_one (col 1 2 ∷ []) ((col 1 2, ascending Binary) ∷ [])) (codes "name" ∷ [])
unfolding understood everything
select_names_is = refl

pub select_names_plain : IsPlain (understood mail_schema select_names) × (reads_listing mail_schema select_names ≡ false)
unfolding understood everything
select_names_plain = ((refl, refl), refl)

pub select_script_is : command_of (understood mail_schema select_script) ≡ Select (over_table scripts_tree by_two (col 1 3 ∷ []) []) (codes "text" ∷ [])
unfolding understood everything
select_script_is = refl

pub select_script_plain : IsPlain (understood mail_schema select_script) × (reads_listing mail_schema select_script ≡ false)
unfolding understood everything
select_script_plain = ((refl, refl), refl)

pub select_folders_is : command_of (understood mail_schema select_folders) ≡ Select (over_table copy_tree by_one (col 1 2 ∷ []) ((col 1 2, ascending Binary) ∷ [])) (codes "folder" ∷ [])
unfolding understood everything
select_folders_is = refl

pub select_folders_plain : IsPlain (understood mail_schema select_folders) × (reads_listing mail_schema select_folders ≡ false)
unfolding understood everything
select_folders_plain = ((refl, refl), refl)

-- the message of a copy, which has the copy's owner and number, of the copies in a folder
abbrev pub of_message : List Term
of_message = op2 (Compare Eq Binary) (col 2 1) (col 1 1) ∷ op2 (Compare Eq Binary) (col 2 2) (col 1 4) ∷ by_two

pub select_folder_is : command_of (understood mail_schema select_folder) ≡ Select (over_two copy_tree message_tree of_message (col 2 3 ∷ []) ((col 1 3, ascending Binary) ∷ [])) (codes "bytes" ∷ [])
unfolding understood everything
select_folder_is = refl

pub select_folder_plain : IsPlain (understood mail_schema select_folder) × (reads_listing mail_schema select_folder ≡ false)
unfolding understood everything
select_folder_plain = ((refl, refl), refl)

abbrev pub queue_shown : List Term
queue_shown = col 1 2 ∷ col 1 3 ∷ col 1 4 ∷ col 1 5 ∷ col 1 6 ∷ []

pub select_queue_is : command_of (understood mail_schema select_queue) ≡ Select (over_table outgoing_tree by_one queue_shown ((col 1 2, ascending Binary) ∷ [])) (codes "id" ∷ codes "kind" ∷ codes "sender" ∷ codes "target" ∷ codes "message" ∷ [])
unfolding understood everything
select_queue_is = refl

pub select_queue_plain : IsPlain (understood mail_schema select_queue) × (reads_listing mail_schema select_queue ≡ false)
unfolding understood everything
select_queue_plain = ((refl, refl), refl)

pub select_outgoing_is : command_of (understood mail_schema select_outgoing) ≡ Select (over_table outgoing_tree by_two queue_shown []) (codes "id" ∷ codes "kind" ∷ codes "sender" ∷ codes "target" ∷ codes "message" ∷ [])
unfolding understood everything
select_outgoing_is = refl

pub select_outgoing_plain : IsPlain (understood mail_schema select_outgoing) × (reads_listing mail_schema select_outgoing ≡ false)
unfolding understood everything
select_outgoing_plain = ((refl, refl), refl)

abbrev pub notices_shown : List Term
notices_shown = col 1 3 ∷ col 1 4 ∷ []

pub select_notices_is : command_of (understood mail_schema select_notices) ≡ Select (over_table notice_tree by_one notices_shown ((col 1 2, ascending Binary) ∷ [])) (codes "moment" ∷ codes "text" ∷ [])
unfolding understood everything
select_notices_is = refl

pub select_notices_plain : IsPlain (understood mail_schema select_notices) × (reads_listing mail_schema select_notices ≡ false)
unfolding understood everything
select_notices_plain = ((refl, refl), refl)

abbrev pub by_three : List Term
by_three = equals 1 0 ∷ equals 2 1 ∷ equals 3 2 ∷ []

abbrev pub six_terms : List Term
six_terms = col 0 0 ∷ col 0 1 ∷ col 0 2 ∷ col 0 3 ∷ col 0 4 ∷ col 0 5 ∷ []

pub insert_outgoing_is : command_of (understood mail_schema insert_outgoing) ≡ Insert 3 (Values (lit Null ∷ six_terms) 7)
unfolding understood everything
insert_outgoing_is = refl

pub insert_outgoing_plain : IsPlain (understood mail_schema insert_outgoing)
unfolding understood everything
insert_outgoing_plain = (refl, refl)

pub delete_outgoing_is : command_of (understood mail_schema delete_outgoing) ≡ Delete 3 (over_table outgoing_tree by_two (col 1 0 ∷ []) [])
unfolding understood everything
delete_outgoing_is = refl

pub delete_outgoing_plain : IsPlain (understood mail_schema delete_outgoing)
unfolding understood everything
delete_outgoing_plain = (refl, refl)

pub insert_reply_is : command_of (understood mail_schema insert_reply) ≡ Insert 4 (Values (lit Null ∷ four_terms) 5)
unfolding understood everything
insert_reply_is = refl

pub insert_reply_plain : IsPlain (understood mail_schema insert_reply)
unfolding understood everything
insert_reply_plain = (refl, refl)

pub delete_reply_is : command_of (understood mail_schema delete_reply) ≡ Delete 4 (over_table reply_tree by_three (col 1 0 ∷ []) [])
unfolding understood everything
delete_reply_is = refl

pub delete_reply_plain : IsPlain (understood mail_schema delete_reply)
unfolding understood everything
delete_reply_plain = (refl, refl)

pub insert_notice_is : command_of (understood mail_schema insert_notice) ≡ Insert 5 (Values (lit Null ∷ four_terms) 5)
unfolding understood everything
insert_notice_is = refl

pub insert_notice_plain : IsPlain (understood mail_schema insert_notice)
unfolding understood everything
insert_notice_plain = (refl, refl)

pub select_moment_is : command_of (understood mail_schema select_moment) ≡ Select (over_table reply_tree by_three (col 1 4 ∷ []) []) (codes "moment" ∷ [])
unfolding understood everything
select_moment_is = refl

pub select_moment_plain : IsPlain (understood mail_schema select_moment) × (reads_listing mail_schema select_moment ≡ false)
unfolding understood everything
select_moment_plain = ((refl, refl), refl)

-- the replies of one owner to one sender
abbrev pub by_sender : List Term
by_sender = equals 1 0 ∷ equals 3 1 ∷ []

abbrev pub replies_shown : List Term
replies_shown = col 1 2 ∷ col 1 4 ∷ []

pub select_replies_is : command_of (understood mail_schema select_replies) ≡ Select (over_table reply_tree by_sender replies_shown ((col 1 2, ascending Binary) ∷ [])) (codes "handle" ∷ codes "moment" ∷ [])
unfolding understood everything
select_replies_is = refl

pub select_replies_plain : IsPlain (understood mail_schema select_replies) × (reads_listing mail_schema select_replies ≡ false)
unfolding understood everything
select_replies_plain = ((refl, refl), refl)

pub delete_message_is : command_of (understood mail_schema delete_message) ≡ Delete 6 (over_table message_tree by_two (col 1 0 ∷ []) [])
unfolding understood everything
delete_message_is = refl

pub delete_message_plain : IsPlain (understood mail_schema delete_message)
unfolding understood everything
delete_message_plain = (refl, refl)

pub delete_copy_is : command_of (understood mail_schema delete_copy) ≡ Delete 7 (over_table copy_tree by_three (col 1 0 ∷ []) [])
unfolding understood everything
delete_copy_is = refl

pub delete_copy_plain : IsPlain (understood mail_schema delete_copy)
unfolding understood everything
delete_copy_plain = (refl, refl)

pub select_message_is : command_of (understood mail_schema select_message) ≡ Select (over_table message_tree by_two (col 1 3 ∷ []) []) (codes "bytes" ∷ [])
unfolding understood everything
select_message_is = refl

pub select_message_plain : IsPlain (understood mail_schema select_message) × (reads_listing mail_schema select_message ≡ false)
unfolding understood everything
select_message_plain = ((refl, refl), refl)

abbrev pub filings_shown : List Term
filings_shown = col 1 2 ∷ col 1 3 ∷ col 1 4 ∷ col 1 5 ∷ []

pub select_nth_is : command_of (understood mail_schema select_nth) ≡ Select (nth_over (col 0 2) copy_tree by_two filings_shown ((col 1 3, ascending Binary) ∷ [])) (codes "folder" ∷ codes "n" ∷ codes "id" ∷ codes "flags" ∷ [])
unfolding understood everything
select_nth_is = refl

pub select_nth_plain : IsPlain (understood mail_schema select_nth) × (reads_listing mail_schema select_nth ≡ false)
unfolding understood everything
select_nth_plain = ((refl, refl), refl)

abbrev pub heads_shown : List Term
heads_shown = col 1 2 ∷ col 1 3 ∷ col 1 4 ∷ col 1 5 ∷ op1 Length (col 1 6) ∷ []

pub select_heads_is : command_of (understood mail_schema select_heads) ≡ Select (over_table outgoing_tree by_one heads_shown ((col 1 2, ascending Binary) ∷ [])) (codes "id" ∷ codes "kind" ∷ codes "sender" ∷ codes "target" ∷ codes "length(message)" ∷ [])
unfolding understood everything
select_heads_is = refl

pub select_heads_plain : IsPlain (understood mail_schema select_heads) × (reads_listing mail_schema select_heads ≡ false)
unfolding understood everything
select_heads_plain = ((refl, refl), refl)

pub select_numbers_is : command_of (understood mail_schema select_numbers) ≡ Select (over_table copy_tree by_two (col 1 3 ∷ []) ((col 1 3, ascending Binary) ∷ [])) (codes "n" ∷ [])
unfolding understood everything
select_numbers_is = refl

pub select_numbers_plain : IsPlain (understood mail_schema select_numbers) × (reads_listing mail_schema select_numbers ≡ false)
unfolding understood everything
select_numbers_plain = ((refl, refl), refl)

-- another one of the same message
abbrev pub by_other : List Term
by_other = equals 1 0 ∷ equals 4 1 ∷ op2 (Compare Ne Binary) (col 1 3) (col 0 2) ∷ []

pub select_other_is : command_of (understood mail_schema select_other) ≡ Select (first_over copy_tree by_other (col 1 3 ∷ []) []) (codes "n" ∷ [])
unfolding understood everything
select_other_is = refl

pub select_other_plain : IsPlain (understood mail_schema select_other) × (reads_listing mail_schema select_other ≡ false)
unfolding understood everything
select_other_plain = ((refl, refl), refl)

-- a column is greater than what is asked with
abbrev pub exceeds : ℕ → ℕ → Term
exceeds place param = op2 (Compare Gt Binary) (col 1 place) (col 0 param)

abbrev pub place_shown : List Term
place_shown = col 1 1 ∷ col 1 2 ∷ col 1 3 ∷ []

abbrev pub by_place : List (Term × Key)
by_place = (col 1 1, ascending Binary) ∷ (col 1 2, ascending Binary) ∷ (col 1 3, ascending Binary) ∷ []

abbrev pub queued_shown : List Term
queued_shown = col 1 1 ∷ col 1 2 ∷ []

abbrev pub by_queued : List (Term × Key)
by_queued = (col 1 1, ascending Binary) ∷ (col 1 2, ascending Binary) ∷ []

pub select_later_number_is : command_of (understood mail_schema select_later_number) ≡ Select (first_over copy_tree (equals 1 0 ∷ equals 2 1 ∷ exceeds 3 2 ∷ []) place_shown by_place) (codes "owner" ∷ codes "folder" ∷ codes "n" ∷ [])
unfolding understood everything
select_later_number_is = refl

pub select_later_number_plain : IsPlain (understood mail_schema select_later_number) × (reads_listing mail_schema select_later_number ≡ false)
unfolding understood everything
select_later_number_plain = ((refl, refl), refl)

pub select_later_folder_is : command_of (understood mail_schema select_later_folder) ≡ Select (first_over copy_tree (equals 1 0 ∷ exceeds 2 1 ∷ []) place_shown by_place) (codes "owner" ∷ codes "folder" ∷ codes "n" ∷ [])
unfolding understood everything
select_later_folder_is = refl

pub select_later_folder_plain : IsPlain (understood mail_schema select_later_folder) × (reads_listing mail_schema select_later_folder ≡ false)
unfolding understood everything
select_later_folder_plain = ((refl, refl), refl)

pub select_later_owner_is : command_of (understood mail_schema select_later_owner) ≡ Select (first_over copy_tree (exceeds 1 0 ∷ []) place_shown by_place) (codes "owner" ∷ codes "folder" ∷ codes "n" ∷ [])
unfolding understood everything
select_later_owner_is = refl

pub select_later_owner_plain : IsPlain (understood mail_schema select_later_owner) × (reads_listing mail_schema select_later_owner ≡ false)
unfolding understood everything
select_later_owner_plain = ((refl, refl), refl)

pub select_later_id_is : command_of (understood mail_schema select_later_id) ≡ Select (first_over outgoing_tree (equals 1 0 ∷ exceeds 2 1 ∷ []) queued_shown by_queued) (codes "owner" ∷ codes "id" ∷ [])
unfolding understood everything
select_later_id_is = refl

pub select_later_id_plain : IsPlain (understood mail_schema select_later_id) × (reads_listing mail_schema select_later_id ≡ false)
unfolding understood everything
select_later_id_plain = ((refl, refl), refl)

pub select_later_queue_is : command_of (understood mail_schema select_later_queue) ≡ Select (first_over outgoing_tree (exceeds 1 0 ∷ []) queued_shown by_queued) (codes "owner" ∷ codes "id" ∷ [])
unfolding understood everything
select_later_queue_is = refl

pub select_later_queue_plain : IsPlain (understood mail_schema select_later_queue) × (reads_listing mail_schema select_later_queue ≡ false)
unfolding understood everything
select_later_queue_plain = ((refl, refl), refl)

-- ---- an account that is kept up

abbrev pub address_columns : List Term
address_columns = col 1 0 ∷ col 1 0 ∷ col 1 1 ∷ col 0 1 ∷ col 1 3 ∷ col 1 4 ∷ col 1 5 ∷ col 1 6 ∷ col 1 7 ∷ col 1 8 ∷ col 1 9 ∷ []

pub update_address_is : command_of (understood mail_schema update_address) ≡ Update 1 (over_table account_tree by_one address_columns [])
unfolding understood everything
update_address_is = refl

pub update_address_plain : IsPlain (understood mail_schema update_address)
unfolding understood everything
update_address_plain = (refl, refl)

abbrev pub password_columns : List Term
password_columns = col 1 0 ∷ col 1 0 ∷ col 1 1 ∷ col 1 2 ∷ col 0 1 ∷ col 0 2 ∷ col 0 3 ∷ col 1 6 ∷ col 1 7 ∷ col 1 8 ∷ col 1 9 ∷ []

pub update_password_is : command_of (understood mail_schema update_password) ≡ Update 1 (over_table account_tree by_one password_columns [])
unfolding understood everything
update_password_is = refl

pub update_password_plain : IsPlain (understood mail_schema update_password)
unfolding understood everything
update_password_plain = (refl, refl)

abbrev pub rounds_columns : List Term
rounds_columns = col 1 0 ∷ col 1 0 ∷ col 1 1 ∷ col 1 2 ∷ col 1 3 ∷ col 0 1 ∷ col 1 5 ∷ col 1 6 ∷ col 1 7 ∷ col 1 8 ∷ col 1 9 ∷ []

pub update_rounds_is : command_of (understood mail_schema update_rounds) ≡ Update 1 (over_table account_tree by_one rounds_columns [])
unfolding understood everything
update_rounds_is = refl

pub update_rounds_plain : IsPlain (understood mail_schema update_rounds)
unfolding understood everything
update_rounds_plain = (refl, refl)

pub delete_scripts_is : command_of (understood mail_schema delete_scripts) ≡ Delete 2 (over_table scripts_tree by_one (col 1 0 ∷ []) [])
unfolding understood everything
delete_scripts_is = refl

pub delete_scripts_plain : IsPlain (understood mail_schema delete_scripts)
unfolding understood everything
delete_scripts_plain = (refl, refl)

pub delete_queue_is : command_of (understood mail_schema delete_queue) ≡ Delete 3 (over_table outgoing_tree by_one (col 1 0 ∷ []) [])
unfolding understood everything
delete_queue_is = refl

pub delete_queue_plain : IsPlain (understood mail_schema delete_queue)
unfolding understood everything
delete_queue_plain = (refl, refl)

pub delete_notices_is : command_of (understood mail_schema delete_notices) ≡ Delete 5 (over_table notice_tree by_one (col 1 0 ∷ []) [])
unfolding understood everything
delete_notices_is = refl

pub delete_notices_plain : IsPlain (understood mail_schema delete_notices)
unfolding understood everything
delete_notices_plain = (refl, refl)

pub delete_messages_is : command_of (understood mail_schema delete_messages) ≡ Delete 6 (over_table message_tree by_one (col 1 0 ∷ []) [])
unfolding understood everything
delete_messages_is = refl

pub delete_messages_plain : IsPlain (understood mail_schema delete_messages)
unfolding understood everything
delete_messages_plain = (refl, refl)

pub delete_copies_is : command_of (understood mail_schema delete_copies) ≡ Delete 7 (over_table copy_tree by_one (col 1 0 ∷ []) [])
unfolding understood everything
delete_copies_is = refl

pub delete_copies_plain : IsPlain (understood mail_schema delete_copies)
unfolding understood everything
delete_copies_plain = (refl, refl)

abbrev pub by_early : List Term
by_early = equals 1 0 ∷ op2 (Compare Le Binary) (col 1 3) (col 0 1) ∷ []

pub delete_early_notices_is : command_of (understood mail_schema delete_early_notices) ≡ Delete 5 (over_table notice_tree by_early (col 1 0 ∷ []) [])
unfolding understood everything
delete_early_notices_is = refl

pub delete_early_notices_plain : IsPlain (understood mail_schema delete_early_notices)
unfolding understood everything
delete_early_notices_plain = (refl, refl)
