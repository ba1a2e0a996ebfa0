-- What the row changes of an account that is written whole make of its user's rows.
use Rattle.std.specs.Prelude.{◌≡◌, ℕ, pos, List, [], ◌∷◌, fold, map, None, Result, OnOk, IfErr, IfSome}
use Rattle.std.specs.FinMap.{get}
use Rattle.sqlite.specs.State.{State, HasCleanDisk}
use Rattle.store_tables.specs.Rows.{Tables}
use Rattle.store_tables.specs.AccountTable.{account_tree}
use Rattle.store_tables.specs.ScriptTable.{scripts_tree}
use Rattle.store_tables.specs.QueueTable.{outgoing_tree}
use Rattle.store_tables.specs.NoticeTable.{notice_tree}
use Rattle.store_tables.specs.CopyTable.{copy_tree}
use Rattle.store_tables.specs.MessageTable.{message_tree}
use Rattle.store_tables.specs.declared.change.Change.{Change}
use Rattle.store_tables.specs.Changes.{AreOf, ExtendsChanges, made, account_added, active_set, address_set, counters_set, password_set, script_added, script_removed, message_added, copy_added, outgoing_added, notice_added, owned_removed}
use Rattle.store_text.specs.declared.head.AccountHead.{AccountHead}
use Rattle.store_text.specs.declared.part.Part.{Part}
use Rattle.store_text.specs.declared.part.Part.TheVariants.{Script, Reply, Mail, Copy, Letter, Notice}
use Rattle.store_accounts.specs.declared.refusal.Refusal.{Refusal}
use Rattle.store_accounts.specs.Account.{ReplyMoments, latest}
use Rattle.store_accounts.specs.Delivery.{moment_put}
use Rattle.store_accounts.specs.Promises.{KeepsSeen, OverAccounts}
use Rattle.store_accounts.specs.Refusals.{IsTransient}
use Rattle.store_accounts.specs.Whole.{queued_kind}

abbrev pub script_put : List ℕ → List ℕ → List ℕ → Tables → Tables
script_put user name text own = script_added user name text (script_removed user name own)

abbrev pub mail_put : List ℕ → List ℕ → ℕ → List ℕ → List ℕ → Tables → Tables
mail_put user folder n message flags own = copy_added user folder (pos n) (pos n) flags (message_added user (pos n) message own)

abbrev pub part_made : List ℕ → Part → Tables → Tables
part_made user (Script name text) = script_put user name text
part_made user (Reply handle sender moment) = moment_put user handle sender moment
part_made user (Mail number folder message flags) = mail_put user folder number message flags
part_made user (Copy number folder first flags) = copy_added user folder (pos number) (pos first) flags
part_made user (Letter id way sender target message) = outgoing_added user (pos id) (queued_kind way) sender target message
part_made user (Notice number moment text) = notice_added user (pos number) (pos moment) text

-- one part after the other
abbrev pub parts_made : List ℕ → List Part → Tables → Tables
parts_made user parts own = fold (λ rows part. part_made user part rows) own parts

-- a moment is the later one of its own and the one that is kept under its handle for its sender, if one is
abbrev pub over_kept : ReplyMoments → Part → Part
over_kept replies (Reply handle sender moment) = Reply handle sender (latest (get replies (handle, sender)) moment)
over_kept replies part = part

-- a part over the moments that are kept
abbrev pub part_over : List ℕ → Part → ReplyMoments → Tables → Tables
part_over user part replies = part_made user (over_kept replies part)

-- all parts over the moments that were kept before them
abbrev pub parts_over : List ℕ → List Part → ReplyMoments → Tables → Tables
parts_over user parts replies = parts_made user (map (over_kept replies) parts)

-- after Ok the changes are longer, by some that make this of the user's rows over the moments that the user's account keeps, if there is one;
-- only reads were asked for it, and it is refused without visible cause alone
pub record PushesOver (user : List ℕ) (change : ReplyMoments → Tables → Tables) (old new : State) (before after : List Change) (result : Result (Unit {0}) Refusal) : Type 0 where
  pub made : HasCleanDisk new → OverAccounts old (λ accounts. OnOk result (IfSome (get accounts user) (λ a. ExtendsChanges user (change a.replies) before after)))
  pub keeps : KeepsSeen old new result
  pub named : IfErr result IsTransient

abbrev pub numbers_made : AccountHead → Tables → Tables
numbers_made head = counters_set head.owner.name (pos head.numbers.next_copy) (pos head.numbers.next_out) (pos head.numbers.next_notice)

abbrev pub owner_made : AccountHead → Tables → Tables
owner_made head own = password_set head.owner.name head.owner.salt head.numbers.rounds head.owner.digest (address_set head.owner.name head.owner.address own)

-- what is had once, in the account's row
abbrev pub head_made : AccountHead → Tables → Tables
head_made head own = active_set head.owner.name head.owner.active (numbers_made head (owner_made head own))

-- a new account's row
abbrev pub account_made : AccountHead → Tables → Tables
account_made head = account_added head.owner.name head.owner.address head.owner.salt head.numbers.rounds head.owner.digest

-- scripts, queue, notices, copies and messages are gone, and no script is active
abbrev pub emptied_by : List ℕ → Tables → Tables
emptied_by user own =
    active_set user None (owned_removed message_tree user (owned_removed copy_tree user (owned_removed notice_tree user (owned_removed outgoing_tree user (owned_removed scripts_tree user own)))))

-- the changes are one user's: first these, then what is had once, then the parts
pub record IsMaking (user : List ℕ) (first : Tables → Tables) (head : AccountHead) (parts : List Part) (changes : List Change) : Type 0 where
  pub owned : AreOf user changes
  pub makes : (own : Tables) → made own changes ≡ parts_made user parts (head_made head (first own))
