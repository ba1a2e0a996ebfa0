-- What each statement makes of the tables.
use Rattle.std.proofs.Common.{◌≡◌, ◌+◌, ℕ, ℤ, pos, Bool, true, false, ◌&&◌, codes, slice_get, List, [], ◌∷◌, Option, Some, None, Ok, refl, inl, inr}
use Rattle.std.specs.Borrow.{Bor}
use Rattle.sqlite_value.specs.declared.value.Value.{Value}
use Rattle.sqlite_value.specs.declared.value.Value.TheVariants.{Int, Text, Blob}
use Rattle.sqlite_value.specs.Keys.{first_key}
use Rattle.sqlite_value.specs.Order.{Row, column}
use Rattle.sqlite_schema.specs.declared.schema.Kind.TheVariants.{Integer}
use Rattle.sqlite_schema.specs.declared.schema.Index.{Index}
use Rattle.sqlite_schema.specs.Rules.{agree, equal}
use Rattle.sqlite_value.specs.declared.keys.Collation.TheVariants.{Binary}
use Rattle.sqlite_rules.specs.Lists.{Has}
use Rattle.sqlite_rules.specs.Cast.{cast, cast_all}
use Rattle.sqlite_catalog.specs.Listing.{automatic}
use Rattle.sqlite.specs.State.{State, Executes}
use Rattle.sqlite.specs.Values.{bound_value, or_null as bound_or_null}
use Rattle.store_tables.specs.Forms.{needed}
use Rattle.store_tables.specs.Rows.{Tables, HoldsTables, has_key, at_most, row_added, rows_removed, removed_where, set_in}
use Rattle.store_tables.proofs.CellLemmas.{cast_int}
use Rattle.store_tables.proofs.ListLemmas.{owner_key, pair_key}
use Rattle.store_tables.proofs.StepLemmas.{on_insert, on_update, on_delete, insert_holds, update_holds, delete_holds, delete_all_holds}
use Rattle.store_tables.proofs.ColumnLemmas.{column_is_of, cast_integer}
use Rattle.store_tables.specs.Schema.{mail_schema}
use Rattle.store_tables.specs.Connection.{TurnsRows}
use Rattle.store_tables.specs.Cells.{or_null, borrowed_octets}
use Rattle.store_tables.specs.MetaTable.{meta, insert_version, meta_tree}
use Rattle.store_tables.specs.AccountTable.{account, insert_account, update_active, update_counters, update_address, update_password, update_rounds, account_cells, with_active, with_counters, with_address, with_password, with_rounds, account_tree, next_copy_column, next_notice_column, next_out_column, rounds_column}
use Rattle.store_tables.specs.ScriptTable.{script, insert_script, delete_script, delete_scripts, script_cells, scripts_tree}
use Rattle.store_tables.specs.MessageTable.{message, insert_message, delete_message, delete_messages, message_cells, message_key, message_tree}
use Rattle.store_tables.specs.CopyTable.{copy, insert_copy, delete_copy, delete_copies, copy_cells, copy_key, copy_tree}
use Rattle.store_tables.specs.declared.queue.QueuedKind.{QueuedKind}
use Rattle.store_tables.specs.QueueTable.{outgoing, insert_outgoing, delete_outgoing, delete_queue, queue_cells, queue_key, outgoing_tree, kind_number}
use Rattle.store_tables.specs.ReplyTable.{reply, insert_reply, delete_reply, reply_cells, reply_key, reply_tree}
use Rattle.store_tables.specs.NoticeTable.{notice, insert_notice, delete_notices, delete_early_notices, notice_row_cells, notice_moment_column, is_early_notice, notice_tree}
use Rattle.store_tables.proofs.SchemaFacts.{no_works, message_listed, copy_listed, script_listed, outgoing_listed, reply_listed, notice_listed}
use Rattle.store_tables.proofs.TextFacts.{by_one, by_two, by_three, six_terms, insert_outgoing_is, insert_outgoing_plain, delete_outgoing_is, delete_outgoing_plain, insert_reply_is, insert_reply_plain, delete_reply_is, delete_reply_plain, insert_notice_is, insert_notice_plain, version_terms, account_terms, active_columns, counter_columns, three_terms, four_terms, five_terms, insert_version_is, insert_version_plain, insert_account_is, insert_account_plain, update_active_is, update_active_plain, update_counters_is, update_counters_plain, insert_script_is, insert_script_plain, delete_script_is, delete_script_plain, insert_message_is, insert_message_plain, insert_copy_is, insert_copy_plain, delete_message_is, delete_message_plain, delete_copy_is, delete_copy_plain, address_columns, password_columns, rounds_columns, by_early, update_address_is, update_address_plain, update_password_is, update_password_plain, update_rounds_is, update_rounds_plain, delete_scripts_is, delete_scripts_plain, delete_queue_is, delete_queue_plain, delete_notices_is, delete_notices_plain, delete_messages_is, delete_messages_plain, delete_copies_is, delete_copies_plain, delete_early_notices_is, delete_early_notices_plain}

abbrev pub account_index : Index
account_index = automatic account 0 (1 ∷ []) (account_tree + 1)

abbrev pub script_index : Index
script_index = automatic script 0 (1 ∷ 2 ∷ []) (scripts_tree + 1)

pub account_agrees : (name : List ℕ) (n : ℤ) (cells : Row) → has_key (owner_key name) cells ≡ true → agree account_index.order account_index.columns (Int n ∷ cells) (0 ∷ []) (owner_key name) ≡ true
unfolding first_key
account_agrees name n cells h = h

pub script_agrees : (owner name : List ℕ) (n : ℤ) (cells : Row) → has_key (pair_key owner name) cells ≡ true → agree script_index.order script_index.columns (Int n ∷ cells) (0 ∷ 1 ∷ []) (pair_key owner name) ≡ true
unfolding first_key
script_agrees owner name n cells h = h

abbrev pub outgoing_index : Index
outgoing_index = automatic outgoing 0 (1 ∷ 2 ∷ []) (outgoing_tree + 1)

abbrev pub reply_index : Index
reply_index = automatic reply 0 (1 ∷ 2 ∷ 3 ∷ []) (reply_tree + 1)

pub outgoing_agrees : (owner : List ℕ) (id : ℤ) (n : ℤ) (cells : Row) → has_key (queue_key owner id) cells ≡ true → agree outgoing_index.order outgoing_index.columns (Int n ∷ cells) (0 ∷ 1 ∷ []) (queue_key owner id) ≡ true
unfolding first_key
outgoing_agrees owner id n cells h = h

pub reply_agrees : (owner handle sender : List ℕ) (n : ℤ) (cells : Row) → has_key (reply_key owner handle sender) cells ≡ true
    → agree reply_index.order reply_index.columns (Int n ∷ cells) (0 ∷ 1 ∷ 2 ∷ []) (reply_key owner handle sender) ≡ true
unfolding first_key
reply_agrees owner handle sender n cells h = h

abbrev pub message_index : Index
message_index = automatic message 0 (1 ∷ 2 ∷ []) (message_tree + 1)

abbrev pub copy_index : Index
copy_index = automatic copy 0 (1 ∷ 2 ∷ 3 ∷ []) (copy_tree + 1)

pub message_agrees : (owner : List ℕ) (id : ℤ) (n : ℤ) (cells : Row) → has_key (message_key owner id) cells ≡ true → agree message_index.order message_index.columns (Int n ∷ cells) (0 ∷ 1 ∷ []) (message_key owner id) ≡ true
unfolding first_key
message_agrees owner id n cells h = h

pub copy_agrees : (owner folder : List ℕ) (number : ℤ) (n : ℤ) (cells : Row) → has_key (copy_key owner folder number) cells ≡ true
    → agree copy_index.order copy_index.columns (Int n ∷ cells) (0 ∷ 1 ∷ 2 ∷ []) (copy_key owner folder number) ≡ true
unfolding first_key
copy_agrees owner folder number n cells h = h

pub removes_script : (old new : State) (owner name : List ℕ) (count : ℕ) → Executes delete_script (pair_key owner name) old new (Ok count)
    → TurnsRows (rows_removed scripts_tree (pair_key owner name)) old.now new.now
removes_script old new owner name count ran tables h =
    let params = pair_key owner name in
    let on = on_delete mail_schema delete_script params old new tables h delete_script_plain count ran 2 script refl _ delete_script_is in
    delete_holds mail_schema no_works script.name scripts_tree script.primary script.references script.columns params old new tables h script_listed script_index (inr (inr (inl refl))) refl params (0 ∷ 1 ∷ [])
    (script_agrees owner name) by_two (λ n cells. refl) 2 on.0 on.1

pub inserts_script : (old new : State) (owner name text : List ℕ) (count : ℕ) → Executes insert_script (script_cells owner name text) old new (Ok count)
    → TurnsRows (row_added scripts_tree (script_cells owner name text)) old.now new.now
inserts_script old new owner name text count ran tables h =
    let params = script_cells owner name text in
    let on = on_insert mail_schema insert_script params old new tables h insert_script_plain count ran 2 script refl _ insert_script_is in
    insert_holds mail_schema no_works script.name scripts_tree script.primary script.references script.columns params old new tables h script_listed 2 three_terms 4 params on.0 refl refl on.1

pub inserts_message : (old new : State) (owner : List ℕ) (id : ℤ) (bytes : List ℕ) (count : ℕ) → Executes insert_message (message_cells owner id bytes) old new (Ok count)
    → TurnsRows (row_added message_tree (message_cells owner id bytes)) old.now new.now
inserts_message old new owner id bytes count ran tables h =
    let params = message_cells owner id bytes in
    let on = on_insert mail_schema insert_message params old new tables h insert_message_plain count ran 6 message refl _ insert_message_is in
    insert_holds mail_schema no_works message.name message_tree message.primary message.references message.columns params old new tables h message_listed 6 three_terms 4 params on.0 refl (rw cast_int) on.1

pub inserts_copy : (old new : State) (owner folder : List ℕ) (n id : ℤ) (flags : List ℕ) (count : ℕ) → Executes insert_copy (copy_cells owner folder n id flags) old new (Ok count)
    → TurnsRows (row_added copy_tree (copy_cells owner folder n id flags)) old.now new.now
inserts_copy old new owner folder n id flags count ran tables h =
    let params = copy_cells owner folder n id flags in
    let on = on_insert mail_schema insert_copy params old new tables h insert_copy_plain count ran 7 copy refl _ insert_copy_is in
    insert_holds mail_schema no_works copy.name copy_tree copy.primary copy.references copy.columns params old new tables h copy_listed 7 five_terms 6 params on.0 refl (rw (cast_int n, cast_int id)) on.1

pub removes_message : (old new : State) (owner : List ℕ) (id : ℤ) (count : ℕ) → Executes delete_message (message_key owner id) old new (Ok count)
    → TurnsRows (rows_removed message_tree (message_key owner id)) old.now new.now
removes_message old new owner id count ran tables h =
    let params = message_key owner id in
    let on = on_delete mail_schema delete_message params old new tables h delete_message_plain count ran 6 message refl _ delete_message_is in
    delete_holds mail_schema no_works message.name message_tree message.primary message.references message.columns params old new tables h message_listed message_index (inr (inr (inr (inr (inr (inr (inl refl))))))) refl params (0 ∷ 1 ∷ [])
    (message_agrees owner id) by_two (λ n cells. refl) 6 on.0 on.1

pub removes_copy : (old new : State) (owner folder : List ℕ) (n : ℤ) (count : ℕ) → Executes delete_copy (copy_key owner folder n) old new (Ok count)
    → TurnsRows (rows_removed copy_tree (copy_key owner folder n)) old.now new.now
removes_copy old new owner folder n count ran tables h =
    let params = copy_key owner folder n in
    let on = on_delete mail_schema delete_copy params old new tables h delete_copy_plain count ran 7 copy refl _ delete_copy_is in
    delete_holds mail_schema no_works copy.name copy_tree copy.primary copy.references copy.columns params old new tables h copy_listed copy_index (inr (inr (inr (inr (inr (inr (inr (inl refl)))))))) refl params (0 ∷ 1 ∷ 2 ∷ [])
    (copy_agrees owner folder n) by_three (λ n cells. refl) 7 on.0 on.1

pub inserts_account : (old new : State) (name address salt : List ℕ) (rounds : ℕ) (digest : List ℕ) (count : ℕ) → Executes insert_account (Blob name ∷ Blob address ∷ Blob salt ∷ Int (pos rounds) ∷ Blob digest ∷ []) old new (Ok count)
    → TurnsRows (row_added account_tree (account_cells name address salt rounds digest)) old.now new.now
inserts_account old new name address salt rounds digest count ran tables h =
    let params : Row = Blob name ∷ Blob address ∷ Blob salt ∷ Int (pos rounds) ∷ Blob digest ∷ [] in
    let on = on_insert mail_schema insert_account params old new tables h insert_account_plain count ran 1 account refl _ insert_account_is in
    insert_holds mail_schema no_works account.name account_tree account.primary account.references account.columns params old new tables h (inr (inl refl)) 1 account_terms 10 (account_cells name address salt rounds digest) on.0 refl
    (rw (cast_int (pos rounds), cast_int (pos 1))) on.1

pub inserts_version : (old new : State) (count : ℕ) → Executes insert_version [] old new (Ok count) → TurnsRows (row_added meta_tree (Text (codes "version") ∷ Int (pos 3) ∷ [])) old.now new.now
inserts_version old new count ran tables h =
    let on = on_insert mail_schema insert_version [] old new tables h insert_version_plain count ran 0 meta refl _ insert_version_is in
    insert_holds mail_schema no_works meta.name meta_tree meta.primary meta.references meta.columns [] old new tables h (inl refl) 0 version_terms 3 (Text (codes "version") ∷ Int (pos 3) ∷ []) on.0 refl
    (rw (cast_int (pos 3))) on.1

-- the INTEGER columns of an account's row are stored as they are
module _ (old : State) (tables : Tables) (h : HoldsTables mail_schema old.now tables) (cells : Row) (there : Has (tables account_tree) cells) where
  whole : (place : ℕ) (name : List ℕ) → slice_get account.columns place ≡ Some (needed name Integer) → cast Integer (column cells place) ≡ column cells place
  whole place name at = cast_integer (column cells place)
      (column_is_of mail_schema account.name account_tree account.primary account.references account.columns (inr (inl refl)) old.now.trees h.fits (tables account_tree) (h.each account (inr (inl refl))) cells there place (needed name Integer) at refl)

  active_fits : (v : Value) → cast_all account.columns (with_active v cells) ≡ with_active v cells
  active_fits v = rw (whole rounds_column _ refl, whole next_copy_column _ refl, whole next_out_column _ refl, whole next_notice_column _ refl)

  address_fits : (address : List ℕ) → cast_all account.columns (with_address address cells) ≡ with_address address cells
  address_fits address = rw (whole rounds_column _ refl, whole next_copy_column _ refl, whole next_out_column _ refl, whole next_notice_column _ refl)

  password_fits : (salt : List ℕ) (rounds : ℕ) (digest : List ℕ) → cast_all account.columns (with_password salt rounds digest cells) ≡ with_password salt rounds digest cells
  password_fits salt rounds digest = rw (cast_int (pos rounds), whole next_copy_column _ refl, whole next_out_column _ refl, whole next_notice_column _ refl)

  rounds_fit : (rounds : ℕ) → cast_all account.columns (with_rounds rounds cells) ≡ with_rounds rounds cells
  rounds_fit rounds = rw (cast_int (pos rounds), whole next_copy_column _ refl, whole next_out_column _ refl, whole next_notice_column _ refl)

  counters_fit : (copy out notice : ℤ) → cast_all account.columns (with_counters copy out notice cells) ≡ with_counters copy out notice cells
  counters_fit copy out notice = rw (whole rounds_column _ refl, cast_int copy, cast_int out, cast_int notice)

pub sets_active : (old new : State) (name : List ℕ) (v : Value) (count : ℕ) → Executes update_active (Blob name ∷ v ∷ []) old new (Ok count)
    → TurnsRows (set_in account_tree (owner_key name) (with_active v)) old.now new.now
sets_active old new name v count ran tables h =
    let params : Row = Blob name ∷ v ∷ [] in
    let on = on_update mail_schema update_active params old new tables h update_active_plain count ran 1 account refl _ update_active_is in
    update_holds mail_schema no_works account.name account_tree account.primary account.references account.columns params old new tables h (inr (inl refl)) account_index (inr (inl refl)) refl (owner_key name) (0 ∷ [])
    (account_agrees name) by_one (λ n cells. refl) (with_active v) (λ cells there. active_fits old tables h cells there v) active_columns (λ n cells. refl) 1 on.0 on.1

pub sets_counters : (old new : State) (name : List ℕ) (copies outs notices : ℤ) (count : ℕ) → Executes update_counters (Blob name ∷ Int copies ∷ Int outs ∷ Int notices ∷ []) old new (Ok count)
    → TurnsRows (set_in account_tree (owner_key name) (with_counters copies outs notices)) old.now new.now
sets_counters old new name copies outs notices count ran tables h =
    let params : Row = Blob name ∷ Int copies ∷ Int outs ∷ Int notices ∷ [] in
    let on = on_update mail_schema update_counters params old new tables h update_counters_plain count ran 1 account refl _ update_counters_is in
    update_holds mail_schema no_works account.name account_tree account.primary account.references account.columns params old new tables h (inr (inl refl)) account_index (inr (inl refl)) refl (owner_key name) (0 ∷ [])
    (account_agrees name) by_one (λ n cells. refl) (with_counters copies outs notices) (λ cells there. counters_fit old tables h cells there copies outs notices) counter_columns (λ n cells. refl) 1 on.0 on.1

-- how an option is bound
pub active_bound : (o : Option (Bor (List ℕ))) → bound_value (bound_or_null (λ b. Blob b.now) o) ≡ or_null (borrowed_octets o)
active_bound None = refl
active_bound (Some b) = refl

pub inserts_outgoing : (old new : State) (owner : List ℕ) (id : ℤ) (kind : QueuedKind) (sender target message : List ℕ) (count : ℕ) → Executes insert_outgoing (queue_cells owner id kind sender target message) old new (Ok count)
    → TurnsRows (row_added outgoing_tree (queue_cells owner id kind sender target message)) old.now new.now
inserts_outgoing old new owner id kind sender target message count ran tables h =
    let params = queue_cells owner id kind sender target message in
    let on = on_insert mail_schema insert_outgoing params old new tables h insert_outgoing_plain count ran 3 outgoing refl _ insert_outgoing_is in
    insert_holds mail_schema no_works outgoing.name outgoing_tree outgoing.primary outgoing.references outgoing.columns params old new tables h outgoing_listed 3 six_terms 7 params on.0 refl
    (rw (cast_int id, cast_int (pos (kind_number kind)))) on.1

pub removes_outgoing : (old new : State) (owner : List ℕ) (id : ℤ) (count : ℕ) → Executes delete_outgoing (queue_key owner id) old new (Ok count)
    → TurnsRows (rows_removed outgoing_tree (queue_key owner id)) old.now new.now
removes_outgoing old new owner id count ran tables h =
    let params = queue_key owner id in
    let on = on_delete mail_schema delete_outgoing params old new tables h delete_outgoing_plain count ran 3 outgoing refl _ delete_outgoing_is in
    delete_holds mail_schema no_works outgoing.name outgoing_tree outgoing.primary outgoing.references outgoing.columns params old new tables h outgoing_listed outgoing_index (inr (inr (inr (inl refl)))) refl params (0 ∷ 1 ∷ [])
    (outgoing_agrees owner id) by_two (λ n cells. refl) 3 on.0 on.1

pub inserts_reply : (old new : State) (owner handle sender : List ℕ) (moment : ℤ) (count : ℕ) → Executes insert_reply (reply_cells owner handle sender moment) old new (Ok count)
    → TurnsRows (row_added reply_tree (reply_cells owner handle sender moment)) old.now new.now
inserts_reply old new owner handle sender moment count ran tables h =
    let params = reply_cells owner handle sender moment in
    let on = on_insert mail_schema insert_reply params old new tables h insert_reply_plain count ran 4 reply refl _ insert_reply_is in
    insert_holds mail_schema no_works reply.name reply_tree reply.primary reply.references reply.columns params old new tables h reply_listed 4 four_terms 5 params on.0 refl (rw cast_int) on.1

pub removes_reply : (old new : State) (owner handle sender : List ℕ) (count : ℕ) → Executes delete_reply (reply_key owner handle sender) old new (Ok count)
    → TurnsRows (rows_removed reply_tree (reply_key owner handle sender)) old.now new.now
removes_reply old new owner handle sender count ran tables h =
    let params = reply_key owner handle sender in
    let on = on_delete mail_schema delete_reply params old new tables h delete_reply_plain count ran 4 reply refl _ delete_reply_is in
    delete_holds mail_schema no_works reply.name reply_tree reply.primary reply.references reply.columns params old new tables h reply_listed reply_index (inr (inr (inr (inr (inl refl))))) refl params (0 ∷ 1 ∷ 2 ∷ [])
    (reply_agrees owner handle sender) by_three (λ n cells. refl) 4 on.0 on.1

pub inserts_notice : (old new : State) (owner : List ℕ) (id moment : ℤ) (text : List ℕ) (count : ℕ) → Executes insert_notice (notice_row_cells owner id moment text) old new (Ok count)
    → TurnsRows (row_added notice_tree (notice_row_cells owner id moment text)) old.now new.now
inserts_notice old new owner id moment text count ran tables h =
    let params = notice_row_cells owner id moment text in
    let on = on_insert mail_schema insert_notice params old new tables h insert_notice_plain count ran 5 notice refl _ insert_notice_is in
    insert_holds mail_schema no_works notice.name notice_tree notice.primary notice.references notice.columns params old new tables h notice_listed 5 four_terms 5 params on.0 refl (rw (cast_int id, cast_int moment)) on.1

pub sets_address : (old new : State) (name : List ℕ) (address : List ℕ) (count : ℕ) → Executes update_address (Blob name ∷ Blob address ∷ []) old new (Ok count)
    → TurnsRows (set_in account_tree (owner_key name) (with_address address)) old.now new.now
sets_address old new name address count ran tables h =
    let params : Row = Blob name ∷ Blob address ∷ [] in
    let on = on_update mail_schema update_address params old new tables h update_address_plain count ran 1 account refl _ update_address_is in
    update_holds mail_schema no_works account.name account_tree account.primary account.references account.columns params old new tables h (inr (inl refl)) account_index (inr (inl refl)) refl (owner_key name) (0 ∷ [])
    (account_agrees name) by_one (λ n cells. refl) (with_address address) (λ cells there. address_fits old tables h cells there address) address_columns (λ n cells. refl) 1 on.0 on.1

pub sets_password : (old new : State) (name : List ℕ) (salt : List ℕ) (rounds : ℕ) (digest : List ℕ) (count : ℕ) → Executes update_password (Blob name ∷ Blob salt ∷ Int (pos rounds) ∷ Blob digest ∷ []) old new (Ok count)
    → TurnsRows (set_in account_tree (owner_key name) (with_password salt rounds digest)) old.now new.now
sets_password old new name salt rounds digest count ran tables h =
    let params : Row = Blob name ∷ Blob salt ∷ Int (pos rounds) ∷ Blob digest ∷ [] in
    let on = on_update mail_schema update_password params old new tables h update_password_plain count ran 1 account refl _ update_password_is in
    update_holds mail_schema no_works account.name account_tree account.primary account.references account.columns params old new tables h (inr (inl refl)) account_index (inr (inl refl)) refl (owner_key name) (0 ∷ [])
    (account_agrees name) by_one (λ n cells. refl) (with_password salt rounds digest) (λ cells there. password_fits old tables h cells there salt rounds digest) password_columns (λ n cells. refl) 1 on.0 on.1

pub sets_rounds : (old new : State) (name : List ℕ) (rounds : ℕ) (count : ℕ) → Executes update_rounds (Blob name ∷ Int (pos rounds) ∷ []) old new (Ok count)
    → TurnsRows (set_in account_tree (owner_key name) (with_rounds rounds)) old.now new.now
sets_rounds old new name rounds count ran tables h =
    let params : Row = Blob name ∷ Int (pos rounds) ∷ [] in
    let on = on_update mail_schema update_rounds params old new tables h update_rounds_plain count ran 1 account refl _ update_rounds_is in
    update_holds mail_schema no_works account.name account_tree account.primary account.references account.columns params old new tables h (inr (inl refl)) account_index (inr (inl refl)) refl (owner_key name) (0 ∷ [])
    (account_agrees name) by_one (λ n cells. refl) (with_rounds rounds) (λ cells there. rounds_fit old tables h cells there rounds) rounds_columns (λ n cells. refl) 1 on.0 on.1

-- ---- all rows of an owner

pub removes_scripts : (old new : State) (owner : List ℕ) (count : ℕ) → Executes delete_scripts (owner_key owner) old new (Ok count) → TurnsRows (rows_removed scripts_tree (owner_key owner)) old.now new.now
removes_scripts old new owner count ran tables h =
    let params = owner_key owner in
    let on = on_delete mail_schema delete_scripts params old new tables h delete_scripts_plain count ran 2 script refl _ delete_scripts_is in
    delete_all_holds mail_schema no_works script.name scripts_tree script.primary script.references script.columns params old new tables h script_listed (has_key params) by_one (λ n cells. refl) 2 on.0 on.1

pub removes_queue : (old new : State) (owner : List ℕ) (count : ℕ) → Executes delete_queue (owner_key owner) old new (Ok count) → TurnsRows (rows_removed outgoing_tree (owner_key owner)) old.now new.now
removes_queue old new owner count ran tables h =
    let params = owner_key owner in
    let on = on_delete mail_schema delete_queue params old new tables h delete_queue_plain count ran 3 outgoing refl _ delete_queue_is in
    delete_all_holds mail_schema no_works outgoing.name outgoing_tree outgoing.primary outgoing.references outgoing.columns params old new tables h outgoing_listed (has_key params) by_one (λ n cells. refl) 3 on.0 on.1

pub removes_notices : (old new : State) (owner : List ℕ) (count : ℕ) → Executes delete_notices (owner_key owner) old new (Ok count) → TurnsRows (rows_removed notice_tree (owner_key owner)) old.now new.now
removes_notices old new owner count ran tables h =
    let params = owner_key owner in
    let on = on_delete mail_schema delete_notices params old new tables h delete_notices_plain count ran 5 notice refl _ delete_notices_is in
    delete_all_holds mail_schema no_works notice.name notice_tree notice.primary notice.references notice.columns params old new tables h notice_listed (has_key params) by_one (λ n cells. refl) 5 on.0 on.1

pub removes_messages : (old new : State) (owner : List ℕ) (count : ℕ) → Executes delete_messages (owner_key owner) old new (Ok count) → TurnsRows (rows_removed message_tree (owner_key owner)) old.now new.now
removes_messages old new owner count ran tables h =
    let params = owner_key owner in
    let on = on_delete mail_schema delete_messages params old new tables h delete_messages_plain count ran 6 message refl _ delete_messages_is in
    delete_all_holds mail_schema no_works message.name message_tree message.primary message.references message.columns params old new tables h message_listed (has_key params) by_one (λ n cells. refl) 6 on.0 on.1

pub removes_copies : (old new : State) (owner : List ℕ) (count : ℕ) → Executes delete_copies (owner_key owner) old new (Ok count) → TurnsRows (rows_removed copy_tree (owner_key owner)) old.now new.now
removes_copies old new owner count ran tables h =
    let params = owner_key owner in
    let on = on_delete mail_schema delete_copies params old new tables h delete_copies_plain count ran 7 copy refl _ delete_copies_is in
    delete_all_holds mail_schema no_works copy.name copy_tree copy.primary copy.references copy.columns params old new tables h copy_listed (has_key params) by_one (λ n cells. refl) 7 on.0 on.1

-- two tests, one after the other
both_tests : (a b : Bool) → (a && (b && true)) ≡ ((a && true) && b)
both_tests true true = refl
both_tests true false = refl
both_tests false b = refl

pub removes_early_notices : (old new : State) (owner : List ℕ) (until : ℤ) (count : ℕ) → Executes delete_early_notices (Blob owner ∷ Int until ∷ []) old new (Ok count)
    → TurnsRows (removed_where notice_tree (is_early_notice owner until)) old.now new.now
removes_early_notices old new owner until count ran tables h =
    let params : Row = Blob owner ∷ Int until ∷ [] in
    let on = on_delete mail_schema delete_early_notices params old new tables h delete_early_notices_plain count ran 5 notice refl _ delete_early_notices_is in
    delete_all_holds mail_schema no_works notice.name notice_tree notice.primary notice.references notice.columns params old new tables h notice_listed (is_early_notice owner until) by_early
    (λ n cells. both_tests (equal Binary (column cells 0) (Blob owner)) (at_most (column cells notice_moment_column) (Int until))) 5 on.0 on.1
