-- Which accounts the tables show, row by row.
use Rattle.std.specs.Prelude.{◌≡◌, ◌⊎◌, ℕ, ℤ, pos, Bool, List, [], ◌∷◌, filter, length, map, take, drop, slice_get, Option, Some, None, option_map, if◌then◌else◌}
use Rattle.std.specs.List.{find, list_any}
use Rattle.std.specs.FinMap.{get}
use Rattle.sqlite_value.specs.declared.value.Value.TheVariants.{Blob}
use Rattle.sqlite_value.specs.Order.{Row, column}
use Rattle.sqlite_trees.specs.Tree.{Trees}
use Rattle.sqlite.specs.Effect.{Database}
use Rattle.sqlite.specs.State.{State, HasCleanDisk}
use Rattle.store_tables.specs.Rows.{Tables, HoldsTables, has_key}
use Rattle.store_tables.specs.Schema.{mail_schema, IsOurSchema}
use Rattle.store_tables.specs.Ours.{IsOpenedAs}
use Rattle.store_versions.specs.OldSchema.{old_schema, oldest_schema}
use Rattle.store_versions.specs.SecondSchema.{IsSecondSchema}
use Rattle.store_versions.specs.Migration.{TurnsNew, TurnsNewest}
use Rattle.store_versions.specs.Third.{TurnsThird}
use Rattle.store_versions.specs.Opening.{IsBehind}
pub use Rattle.store_accounts.specs.OwnRows.{rows_of}
use Rattle.store_accounts.specs.OldShows.{OffersOld}
use Rattle.store_accounts.specs.SecondShows.{OffersSecond}
use Rattle.store_accounts.specs.Account.{Account, Accounts}
use Rattle.store_tables.specs.MetaTable.{meta_tree, version_key, version_row}
use Rattle.store_tables.specs.AccountTable.{account_tree}
use Rattle.store_accounts.specs.AccountRows.{account_row}
use Rattle.store_tables.specs.ScriptTable.{scripts_tree}
use Rattle.store_accounts.specs.ScriptRows.{ShowsScripts}
use Rattle.store_tables.specs.QueueTable.{outgoing_tree}
use Rattle.store_accounts.specs.QueueRows.{ShowsQueue}
use Rattle.store_tables.specs.ReplyTable.{reply_tree}
use Rattle.store_accounts.specs.ReplyRows.{ShowsReplies}
use Rattle.store_tables.specs.NoticeTable.{notice_tree}
use Rattle.store_accounts.specs.NoticeRows.{ShowsNotices}
use Rattle.store_tables.specs.MessageTable.{message_key, message_tree, bytes_column}
use Rattle.store_tables.specs.CopyTable.{copy_tree}
use Rattle.store_accounts.specs.CopyRows.{Copy, ShowsCopies, is_in, copies_in, is_other_copy, filing_of, filing_cells, leaving_of, numbered_of}
use Rattle.store_accounts.specs.declared.taking.Leaving.{Leaving}
use Rattle.store_accounts.specs.declared.taking.NumberedMessage.{NumberedMessage}
use Rattle.store_accounts.specs.declared.filing.Filing.{Filing}

-- the rows of one user are those of the account
pub record IsShown (user : List ℕ) (own : Tables) (a : Account) : Type 0 where
  pub next_copy : ℕ
  pub next_notice : ℕ
  pub account_is : own account_tree ≡ account_row user a next_copy next_notice ∷ []
  pub scripts : ShowsScripts user (own scripts_tree) a.scripts
  pub queue : ShowsQueue user (own outgoing_tree) a.queue a.next_out
  pub replies : ShowsReplies user (own reply_tree) a.replies
  pub notices : ShowsNotices user (own notice_tree) a.notices next_notice
  pub copies : ShowsCopies user (own copy_tree) (own message_tree) a.folders a.flags next_copy

-- a name without an account has no row in any table
pub record IsAbsent (own : Tables) : Type 0 where
  pub accounts : own account_tree ≡ []
  pub scripts : own scripts_tree ≡ []
  pub queue : own outgoing_tree ≡ []
  pub replies : own reply_tree ≡ []
  pub notices : own notice_tree ≡ []
  pub messages : own message_tree ≡ []
  pub copies : own copy_tree ≡ []

abbrev pub IsShownOrAbsent : List ℕ → Tables → Option Account → Type 0
IsShownOrAbsent user own None = IsAbsent own
IsShownOrAbsent user own (Some a) = IsShown user own a

-- the tables show the accounts: the version has its one row, whatever other rows are beside it, and each user's rows, for every name
pub record ShowsAccounts (tables : Tables) (accounts : Accounts) : Type 0 where
  pub version : filter (has_key version_key) (tables meta_tree) ≡ version_row ∷ []
  pub users : (user : List ℕ) → IsShownOrAbsent user (rows_of user tables) (get accounts user)

-- a database of our schema, whose tables show the accounts
abbrev pub Presents : Database → Accounts → Type 0
Presents db accounts = (tables : Tables) × HoldsTables mail_schema db tables × ShowsAccounts tables accounts

-- a database of any version that `open` accepts, whose tables show the accounts
abbrev pub OffersAccounts : Database → Accounts → Type 0
OffersAccounts db accounts = Presents db accounts ⊎ (OffersSecond db accounts ⊎ OffersOld db accounts)

-- a database that offers no accounts, not even none at all
abbrev pub OffersNothing : Database → Type 0
OffersNothing db = (accounts : Accounts) → ¬ OffersAccounts db accounts

-- the trees are those of a database that shows the accounts
abbrev pub ShowsIn : Trees → Accounts → Type 0
ShowsIn trees accounts = (db : Database) × Presents db accounts × (trees ≡ db.trees)

-- what is seen has the trees of a database that offers the accounts; for one of an earlier version the schema too, since its schemas share their trees
pub record OffersIn (seen : Database) (accounts : Accounts) : Type 0 where
  pub db : Database
  pub offers : OffersAccounts db accounts
  pub trees : seen.trees ≡ db.trees
  pub schema : IsBehind db.schema → seen.schema ≡ db.schema

-- whatever a crash leaves, this holds of it
abbrev pub OnlyLeaves : (Trees → Type 0) → State → Type 0
OnlyLeaves P s = HasCleanDisk s → (trees : Trees) → s.may_leave trees → P trees

-- whatever accounts the trees offered, they show
abbrev pub StillShows : State → State → Type 0
StillShows old new = HasCleanDisk new → (accounts : Accounts) → OffersIn old.now accounts → Presents new.now accounts

-- ---- a database that is opened: `LayoutBecomes` (store_versions) says what its tables become, `OpensAs` what the accounts become too; of what a crash
-- leaves of it `MayBecome` (store_versions) and `CrashLeavesOpened` say the same; `OpensKnown` (store_versions) is all that `open_known` promises

-- what `open` makes of a database: version 3 stays as it was; version 2 or 1 has become version 3; it shows the accounts that it offered
pub record OpensAs (old new : Database) : Type 0 where
  pub tables : IsOurSchema old.schema → IsOpenedAs old new
  pub second : IsSecondSchema old.schema → TurnsThird old new
  pub last : old.schema ≡ old_schema → TurnsNew old new
  pub fourth : old.schema ≡ oldest_schema → TurnsNewest old new
  pub shown : (accounts : Accounts) → OffersAccounts old accounts → Presents new accounts

-- what a crash may leave of an open, besides what it left before: of a database of an earlier version, what `open` makes of it
pub record CrashLeavesOpened (seen : Database) (trees : Trees) : Type 0 where
  pub behind : IsBehind seen.schema
  pub db : Database
  pub opened : OpensAs seen db
  pub left : trees ≡ db.trees

-- ---- what is read of the copies

-- for the copies that the user's rows show, whatever else they show, this holds
abbrev pub OfCopies : List ℕ → Tables → (List Copy → Type 0) → Type 0
OfCopies user own P = (a : Account) (s : IsShown user own a) → P s.copies.entries

-- for a number as the database has it: the row is that of the folder's copy after that many, or there is none
abbrev pub AreNthRows : List ℕ → List ℕ → ℤ → List Row → Tables → Type 0
AreNthRows user folder count rows own =
    OfCopies user own (λ copies. (n : ℕ) → count ≡ pos n → rows ≡ take 1 (drop n (map filing_cells (map filing_of (copies_in folder copies)))))

-- it is the folder's copy after that many that the user's rows show, or none
abbrev pub IsNthFiling : List ℕ → List ℕ → ℤ → Option Filing → Tables → Type 0
IsNthFiling user folder count filing own =
    OfCopies user own (λ copies. (n : ℕ) → count ≡ pos n → filing ≡ option_map filing_of (slice_get (copies_in folder copies) n))

-- the rows of the user's message with the number
abbrev pub message_rows : List ℕ → ℤ → Tables → List Row
message_rows user id own = filter (has_key (message_key user id)) (own message_tree)

-- the rows are the octets of the user's message with the number, if it has a row
abbrev pub AreOctetRows : List ℕ → ℤ → List Row → Tables → Type 0
AreOctetRows user id rows own = rows ≡ map (λ r. column r bytes_column ∷ []) (message_rows user id own)

-- the octets are those of the user's message with the number
abbrev pub HasMessageOctets : List ℕ → ℕ → List ℕ → Tables → Type 0
HasMessageOctets user id octets own = slice_get (map (λ r. column r bytes_column) (message_rows user (pos id) own)) 0 ≡ Some (Blob octets)

-- it is the folder's message after that many, with the number of its copy, that the user's rows show, or none if they show none
abbrev pub IsNthOf : List ℕ → List ℕ → ℤ → Option NumberedMessage → Tables → Type 0
IsNthOf user folder count message own =
    OfCopies user own (λ copies. (n : ℕ) → count ≡ pos n → message ≡ option_map numbered_of (slice_get (copies_in folder copies) n))

-- it is the first message of the folder, with the number of its copy, that the user's rows show, or none if they show none
abbrev pub IsFirstOf : List ℕ → List ℕ → Option NumberedMessage → Tables → Type 0
IsFirstOf user folder first own = OfCopies user own (λ copies. first ≡ option_map numbered_of (find (is_in folder) copies))

-- for a copy whose numbers the database has as these: one row if there is another copy of its message, and none if there isn't
abbrev pub AreOtherRows : List ℕ → ℤ → ℤ → List Row → Tables → Type 0
AreOtherRows user id n rows own =
    OfCopies user own (λ copies. (f : Filing) → id ≡ pos f.id → n ≡ pos f.n → length rows ≡ (if list_any (is_other_copy f) copies then 1 else 0))

-- whether the user's rows show another copy of the same message
abbrev pub IsShared : List ℕ → Filing → Bool → Tables → Type 0
IsShared user f shared own = OfCopies user own (λ copies. shared ≡ list_any (is_other_copy f) copies)

-- it is the first copy of the folder that the user's rows show, and whether they show another one of its message; none if they show none
abbrev pub IsLeaving : List ℕ → List ℕ → Option Leaving → Tables → Type 0
IsLeaving user folder leaving own = OfCopies user own (λ copies. leaving ≡ option_map (leaving_of copies) (find (is_in folder) copies))
