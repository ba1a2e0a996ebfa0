-- How row changes change the tables.
use Rattle.std.specs.Prelude.{◌≡◌, ℕ, ℤ, Option, List, [], ◌∷◌, fold, Result, OnOk}
use Rattle.std.specs.List.{AllByRecursion}
use Rattle.sqlite_value.specs.declared.value.Value.TheVariants.{Blob}
use Rattle.sqlite_trees.specs.Tree.{Trees}
use Rattle.sqlite.specs.Effect.{Database}
use Rattle.sqlite.specs.State.{State, HasCleanDisk}
use Rattle.store_tables.specs.Rows.{Tables, HoldsTables, row_added, rows_removed, removed_where, set_in}
use Rattle.store_tables.specs.declared.change.Change.{Change}
use Rattle.store_tables.specs.declared.change.Change.TheVariants.{AddAccount, SetActive, SetCounters, SetAddress, SetPassword, SetRounds, AddScript, RemoveScript, RemoveScripts, AddMessage, RemoveMessage, RemoveMessages, AddCopy, RemoveCopy, RemoveCopies, AddOutgoing, RemoveOutgoing, RemoveQueue, AddReply, RemoveReply, AddNotice, RemoveNotices, RemoveEarlyNotices}
use Rattle.store_tables.specs.Schema.{mail_schema}
use Rattle.store_tables.specs.Cells.{or_null, borrowed_octets}
use Rattle.store_tables.specs.AccountTable.{account_cells, with_active, with_counters, with_address, with_password, with_rounds, account_tree}
use Rattle.store_tables.specs.ScriptTable.{script_cells, scripts_tree}
use Rattle.store_tables.specs.MessageTable.{message_cells, message_key, message_tree}
use Rattle.store_tables.specs.CopyTable.{copy_cells, copy_key, copy_tree}
use Rattle.store_tables.specs.QueueTable.{queue_cells, queue_key, outgoing_tree}
use Rattle.store_tables.specs.ReplyTable.{reply_cells, reply_key, reply_tree}
use Rattle.store_tables.specs.NoticeTable.{notice_row_cells, is_early_notice, notice_tree}
use Rattle.store_tables.specs.declared.queue.QueuedKind.{QueuedKind}

-- ---- one row change

abbrev pub account_added : List ℕ → List ℕ → List ℕ → ℕ → List ℕ → Tables → Tables
account_added name address salt rounds digest = row_added account_tree (account_cells name address salt rounds digest)

abbrev pub active_set : List ℕ → Option (List ℕ) → Tables → Tables
active_set name active = set_in account_tree (Blob name ∷ []) (with_active (or_null active))

abbrev pub counters_set : List ℕ → ℤ → ℤ → ℤ → Tables → Tables
counters_set name copy out notice = set_in account_tree (Blob name ∷ []) (with_counters copy out notice)

abbrev pub address_set : List ℕ → List ℕ → Tables → Tables
address_set name address = set_in account_tree (Blob name ∷ []) (with_address address)

abbrev pub password_set : List ℕ → List ℕ → ℕ → List ℕ → Tables → Tables
password_set name salt rounds digest = set_in account_tree (Blob name ∷ []) (with_password salt rounds digest)

abbrev pub rounds_set : List ℕ → ℕ → Tables → Tables
rounds_set name rounds = set_in account_tree (Blob name ∷ []) (with_rounds rounds)

-- all rows of the owner go
abbrev pub owned_removed : ℕ → List ℕ → Tables → Tables
owned_removed tree owner = rows_removed tree (Blob owner ∷ [])

abbrev pub script_added : List ℕ → List ℕ → List ℕ → Tables → Tables
script_added owner name text = row_added scripts_tree (script_cells owner name text)

abbrev pub script_removed : List ℕ → List ℕ → Tables → Tables
script_removed owner name = rows_removed scripts_tree (Blob owner ∷ Blob name ∷ [])

abbrev pub message_added : List ℕ → ℤ → List ℕ → Tables → Tables
message_added owner id bytes = row_added message_tree (message_cells owner id bytes)

abbrev pub message_removed : List ℕ → ℤ → Tables → Tables
message_removed owner id = rows_removed message_tree (message_key owner id)

abbrev pub copy_added : List ℕ → List ℕ → ℤ → ℤ → List ℕ → Tables → Tables
copy_added owner folder n id flags = row_added copy_tree (copy_cells owner folder n id flags)

abbrev pub copy_removed : List ℕ → List ℕ → ℤ → Tables → Tables
copy_removed owner folder n = rows_removed copy_tree (copy_key owner folder n)

abbrev pub outgoing_added : List ℕ → ℤ → QueuedKind → List ℕ → List ℕ → List ℕ → Tables → Tables
outgoing_added owner id kind sender target message = row_added outgoing_tree (queue_cells owner id kind sender target message)

abbrev pub outgoing_removed : List ℕ → ℤ → Tables → Tables
outgoing_removed owner id = rows_removed outgoing_tree (queue_key owner id)

abbrev pub reply_added : List ℕ → List ℕ → List ℕ → ℤ → Tables → Tables
reply_added owner handle sender moment = row_added reply_tree (reply_cells owner handle sender moment)

abbrev pub reply_removed : List ℕ → List ℕ → List ℕ → Tables → Tables
reply_removed owner handle sender = rows_removed reply_tree (reply_key owner handle sender)

abbrev pub notice_added : List ℕ → ℤ → ℤ → List ℕ → Tables → Tables
notice_added owner id moment text = row_added notice_tree (notice_row_cells owner id moment text)

abbrev pub early_notices_removed : List ℕ → ℤ → Tables → Tables
early_notices_removed owner until = removed_where notice_tree (is_early_notice owner until)

abbrev pub made_one : Change → Tables → Tables
made_one (AddAccount name address salt rounds digest) = account_added name.now address.now salt.now rounds digest.now
made_one (SetActive name active) = active_set name.now (borrowed_octets active)
made_one (SetCounters name copy out notice) = counters_set name.now copy out notice
made_one (SetAddress name address) = address_set name.now address.now
made_one (SetPassword name salt rounds digest) = password_set name.now salt.now rounds digest.now
made_one (SetRounds name rounds) = rounds_set name.now rounds
made_one (AddScript owner name text) = script_added owner.now name.now text.now
made_one (RemoveScript owner name) = script_removed owner.now name.now
made_one (RemoveScripts owner) = owned_removed scripts_tree owner.now
made_one (AddMessage owner id bytes) = message_added owner.now id bytes.now
made_one (RemoveMessage owner id) = message_removed owner.now id
made_one (RemoveMessages owner) = owned_removed message_tree owner.now
made_one (AddCopy owner folder n id flags) = copy_added owner.now folder.now n id flags.now
made_one (RemoveCopy owner folder n) = copy_removed owner.now folder.now n
made_one (RemoveCopies owner) = owned_removed copy_tree owner.now
made_one (AddOutgoing owner id kind sender target message) = outgoing_added owner.now id kind sender.now target.now message.now
made_one (RemoveOutgoing owner id) = outgoing_removed owner.now id
made_one (RemoveQueue owner) = owned_removed outgoing_tree owner.now
made_one (AddReply owner handle sender moment) = reply_added owner.now handle.now sender.now moment
made_one (RemoveReply owner handle sender) = reply_removed owner.now handle.now sender.now
made_one (AddNotice owner id moment text) = notice_added owner.now id moment text.now
made_one (RemoveNotices owner) = owned_removed notice_tree owner.now
made_one (RemoveEarlyNotices owner until) = early_notices_removed owner.now until

-- ---- several

-- the changes one after another
abbrev pub made : Tables → List Change → Tables
made = fold (λ tables change. made_one change tables)

-- after Ok all row changes are made
abbrev pub MakesAll : {X E : Type 0} → List Change → State → State → Result X E → Type 0
MakesAll changes old new result = HasCleanDisk new → (tables : Tables) → HoldsTables mail_schema old.now tables → OnOk result (HoldsTables mail_schema new.now (made tables changes))

-- what a crash may leave of a transaction of these changes
abbrev pub CrashLeavesTables : List Change → State → Trees → Type 0
CrashLeavesTables changes s trees = (tables : Tables) → HoldsTables mail_schema s.now tables → (after : Database) × HoldsTables mail_schema after (made tables changes) × (trees ≡ after.trees)

-- whose row it is
abbrev pub change_owner : Change → List ℕ
change_owner (AddAccount name address salt rounds digest) = name.now
change_owner (SetActive name active) = name.now
change_owner (SetCounters name copy out notice) = name.now
change_owner (SetAddress name address) = name.now
change_owner (SetPassword name salt rounds digest) = name.now
change_owner (SetRounds name rounds) = name.now
change_owner (AddScript owner name text) = owner.now
change_owner (RemoveScript owner name) = owner.now
change_owner (RemoveScripts owner) = owner.now
change_owner (AddMessage owner id bytes) = owner.now
change_owner (RemoveMessage owner id) = owner.now
change_owner (RemoveMessages owner) = owner.now
change_owner (AddCopy owner folder n id flags) = owner.now
change_owner (RemoveCopy owner folder n) = owner.now
change_owner (RemoveCopies owner) = owner.now
change_owner (AddOutgoing owner id kind sender target message) = owner.now
change_owner (RemoveOutgoing owner id) = owner.now
change_owner (RemoveQueue owner) = owner.now
change_owner (AddReply owner handle sender moment) = owner.now
change_owner (RemoveReply owner handle sender) = owner.now
change_owner (AddNotice owner id moment text) = owner.now
change_owner (RemoveNotices owner) = owner.now
change_owner (RemoveEarlyNotices owner until) = owner.now

-- all changes are of one user
abbrev pub AreOf : List ℕ → List Change → Type 0
AreOf user = AllByRecursion (λ d. change_owner d ≡ user)

-- the changes are of one user, and change the tables like this after what the earlier ones made
pub record ExtendsChanges (user : List ℕ) (change : Tables → Tables) (earlier changes : List Change) : Type 0 where
  pub owned : AreOf user earlier → AreOf user changes
  pub makes : (own : Tables) → made own changes ≡ change (made own earlier)

-- the change is of one user, and changes the tables like this
pub record MakesOwn (user : List ℕ) (change : Tables → Tables) (one : Change) : Type 0 where
  pub owned : change_owner one ≡ user
  pub makes : (own : Tables) → made_one one own ≡ change own
