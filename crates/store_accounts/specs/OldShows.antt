-- Which accounts the tables of version 1 show, row by row: all is as in version 3, except that each copy has its own message and no flags.
use Rattle.std.specs.Prelude.{◌≡◌, ◌⊎◌, ℕ, pos, List, [], ◌∷◌, codes, filter, Option, Some, None}
use Rattle.std.specs.List.{AllByRecursion}
use Rattle.std.specs.FinMap.{get}
use Rattle.sqlite_value.specs.declared.value.Value.TheVariants as value
use Rattle.sqlite_value.specs.Order.{Row}
use Rattle.sqlite.specs.Effect.{Database}
use Rattle.store_tables.specs.Rows.{Tables, HoldsTables, has_key}
use Rattle.store_tables.specs.MetaTable.{meta_tree, version_key}
use Rattle.store_tables.specs.AccountTable.{account_tree}
use Rattle.store_tables.specs.ScriptTable.{scripts_tree}
use Rattle.store_tables.specs.QueueTable.{outgoing_tree}
use Rattle.store_tables.specs.ReplyTable.{reply_tree}
use Rattle.store_tables.specs.NoticeTable.{notice_tree}
use Rattle.store_versions.specs.OldSchema.{old_schema, oldest_schema, old_copy_tree}
use Rattle.store_versions.specs.Migration.{IsMoved}
use Rattle.store_accounts.specs.Account.{Account, Accounts, Folders}
use Rattle.store_accounts.specs.AccountRows.{account_row}
use Rattle.store_accounts.specs.ScriptRows.{ShowsScripts}
use Rattle.store_accounts.specs.QueueRows.{ShowsQueue}
use Rattle.store_accounts.specs.ReplyRows.{ShowsReplies}
use Rattle.store_accounts.specs.NoticeRows.{ShowsNotices}
use Rattle.store_accounts.specs.Numbers.{AreNumbered}
use Rattle.store_accounts.specs.CopyRows.{Copy, IsUnflagged, folders_from, flags_from}
use Rattle.store_accounts.specs.OwnRows.{rows_of}

-- the row of a copy: its folder, its number and its message
abbrev pub old_copy_row : List ℕ → Copy → Row
old_copy_row user copy = value.Blob user ∷ value.Blob copy.folder ∷ value.Int (pos copy.n) ∷ value.Blob copy.message ∷ []

-- the rows are those of the user's copies: a folder is the list of its copies in the order of their numbers, and each is a copy of a
-- message of its own, without flags
pub record ShowsOldCopies (user : List ℕ) (rows : List Row) (folders flags : Folders) (next : ℕ) : Type 0 where
  pub entries : List Copy
  pub numbered : AreNumbered (λ c. c.n) (old_copy_row user) rows entries next
  pub own : AllByRecursion (λ c. c.id ≡ c.n) entries
  pub bare : AllByRecursion IsUnflagged entries
  pub shown : folders ≡ folders_from entries
  pub shown_flags : flags ≡ flags_from entries

-- the rows of one user are those of the account
pub record IsShownOld (user : List ℕ) (own : Tables) (a : Account) : Type 0 where
  pub next_copy : ℕ
  pub next_notice : ℕ
  pub account_is : own account_tree ≡ account_row user a next_copy next_notice ∷ []
  pub scripts : ShowsScripts user (own scripts_tree) a.scripts
  pub queue : ShowsQueue user (own outgoing_tree) a.queue a.next_out
  pub replies : ShowsReplies user (own reply_tree) a.replies
  pub notices : ShowsNotices user (own notice_tree) a.notices next_notice
  pub copies : ShowsOldCopies user (own old_copy_tree) a.folders a.flags next_copy

-- a name without an account has no row in any table
pub record IsAbsentOld (own : Tables) : Type 0 where
  pub accounts : own account_tree ≡ []
  pub scripts : own scripts_tree ≡ []
  pub queue : own outgoing_tree ≡ []
  pub replies : own reply_tree ≡ []
  pub notices : own notice_tree ≡ []
  pub copies : own old_copy_tree ≡ []

abbrev pub IsShownOldOrAbsent : List ℕ → Tables → Option Account → Type 0
IsShownOldOrAbsent user own None = IsAbsentOld own
IsShownOldOrAbsent user own (Some a) = IsShownOld user own a

abbrev pub old_version_row : Row
old_version_row = value.Text (codes "version") ∷ value.Int (pos 1) ∷ []

-- the tables of version 1 show the accounts: the version has its one row
pub record ShowsOldAccounts (tables : Tables) (accounts : Accounts) : Type 0 where
  pub version : filter (has_key version_key) (tables meta_tree) ≡ old_version_row ∷ []
  pub users : (user : List ℕ) → IsShownOldOrAbsent user (rows_of user tables) (get accounts user)

-- a database of version 1 has these rows, numbered as with the copies last: with the copies fourth each table has them elsewhere
abbrev pub HoldsOld : Database → Tables → Type 0
HoldsOld db tables = HoldsTables old_schema db tables ⊎ ((there : Tables) × HoldsTables oldest_schema db there × IsMoved there tables)

-- a database of version 1 whose tables show the accounts
abbrev pub OffersOld : Database → Accounts → Type 0
OffersOld db accounts = (tables : Tables) × HoldsOld db tables × ShowsOldAccounts tables accounts
