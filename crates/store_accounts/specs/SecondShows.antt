-- Which accounts the tables of version 2 show, row by row: all is as in version 3, except that no copy has flags.
use Rattle.std.specs.Prelude.{◌≡◌, ◌⊎◌, ℕ, pos, List, [], ◌∷◌, codes, filter, Option, Some, None}
use Rattle.std.specs.List.{AllByRecursion}
use Rattle.std.specs.FinMap.{get}
use Rattle.sqlite_value.specs.declared.value.Value.TheVariants as value
use Rattle.sqlite_value.specs.Order.{Row}
use Rattle.sqlite.specs.Effect.{Database}
use Rattle.store_tables.specs.Rows.{Tables, HoldsTables, has_key}
use Rattle.store_tables.specs.MetaTable.{meta_tree, version_key}
use Rattle.store_tables.specs.AccountTable.{account_tree}
use Rattle.store_tables.specs.ScriptTable.{scripts_tree}
use Rattle.store_tables.specs.QueueTable.{outgoing_tree}
use Rattle.store_tables.specs.ReplyTable.{reply_tree}
use Rattle.store_tables.specs.NoticeTable.{notice_tree}
use Rattle.store_tables.specs.MessageTable.{message_tree}
use Rattle.store_tables.specs.CopyTable.{copy_tree}
use Rattle.store_versions.specs.SecondSchema.{second_schema, second_unindexed_schema}
use Rattle.store_accounts.specs.Account.{Account, Accounts, Folders}
use Rattle.store_accounts.specs.AccountRows.{account_row}
use Rattle.store_accounts.specs.ScriptRows.{ShowsScripts}
use Rattle.store_accounts.specs.QueueRows.{ShowsQueue}
use Rattle.store_accounts.specs.ReplyRows.{ShowsReplies}
use Rattle.store_accounts.specs.NoticeRows.{ShowsNotices}
use Rattle.store_accounts.specs.Numbers.{AreNumbered}
use Rattle.store_accounts.specs.MessageRows.{Message, message_row}
use Rattle.store_accounts.specs.CopyRows.{Copy, AreKept, IsUnflagged, folders_from, flags_from}
use Rattle.store_accounts.specs.OwnRows.{rows_of}

-- the row of a copy: its folder, its number, and its message's
abbrev pub second_copy_row : List ℕ → Copy → Row
second_copy_row user copy = value.Blob user ∷ value.Blob copy.folder ∷ value.Int (pos copy.n) ∷ value.Int (pos copy.id) ∷ []

-- the rows are those of the user's copies and of their messages: a folder is the list of its copies in the order of their numbers, and none has flags
pub record ShowsSecondCopies (user : List ℕ) (rows message_rows : List Row) (folders flags : Folders) (next : ℕ) : Type 0 where
  pub entries : List Copy
  pub messages : List Message
  pub numbered : AreNumbered (λ c. c.n) (second_copy_row user) rows entries next
  pub stored : AreNumbered (λ m. m.id) (message_row user) message_rows messages next
  pub kept : AreKept entries messages
  pub bare : AllByRecursion IsUnflagged entries
  pub shown : folders ≡ folders_from entries
  pub shown_flags : flags ≡ flags_from entries

-- the rows of one user are those of the account
pub record IsShownSecond (user : List ℕ) (own : Tables) (a : Account) : Type 0 where
  pub next_copy : ℕ
  pub next_notice : ℕ
  pub account_is : own account_tree ≡ account_row user a next_copy next_notice ∷ []
  pub scripts : ShowsScripts user (own scripts_tree) a.scripts
  pub queue : ShowsQueue user (own outgoing_tree) a.queue a.next_out
  pub replies : ShowsReplies user (own reply_tree) a.replies
  pub notices : ShowsNotices user (own notice_tree) a.notices next_notice
  pub copies : ShowsSecondCopies user (own copy_tree) (own message_tree) a.folders a.flags next_copy

-- a name without an account has no row in any table
pub record IsAbsentSecond (own : Tables) : Type 0 where
  pub accounts : own account_tree ≡ []
  pub scripts : own scripts_tree ≡ []
  pub queue : own outgoing_tree ≡ []
  pub replies : own reply_tree ≡ []
  pub notices : own notice_tree ≡ []
  pub messages : own message_tree ≡ []
  pub copies : own copy_tree ≡ []

abbrev pub IsShownSecondOrAbsent : List ℕ → Tables → Option Account → Type 0
IsShownSecondOrAbsent user own None = IsAbsentSecond own
IsShownSecondOrAbsent user own (Some a) = IsShownSecond user own a

abbrev pub second_version_row : Row
second_version_row = value.Text (codes "version") ∷ value.Int (pos 2) ∷ []

-- the tables of version 2 show the accounts: the version has its one row
pub record ShowsSecondAccounts (tables : Tables) (accounts : Accounts) : Type 0 where
  pub version : filter (has_key version_key) (tables meta_tree) ≡ second_version_row ∷ []
  pub users : (user : List ℕ) → IsShownSecondOrAbsent user (rows_of user tables) (get accounts user)

-- a database of version 2 has these rows: with the index of the copies by their messages or, if it was made before that was introduced, without it
abbrev pub HoldsSecond : Database → Tables → Type 0
HoldsSecond db tables = HoldsTables second_schema db tables ⊎ HoldsTables second_unindexed_schema db tables

-- a database of version 2 whose tables show the accounts
abbrev pub OffersSecond : Database → Accounts → Type 0
OffersSecond db accounts = (tables : Tables) × HoldsSecond db tables × ShowsSecondAccounts tables accounts
