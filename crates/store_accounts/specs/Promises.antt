-- What the calls of the store promise of accounts.
use Rattle.std.specs.Prelude.{◌≡◌, ◌⊎◌, List, [], ℕ, Option, Result, Vec, OnOk, OnErr, IfOk, IfErr, IfSome, IsTrue, IsSome, None, Some, map, option_map}
use Rattle.std.specs.declared.alloc.Global.{Global}
use Rattle.std.specs.FinMap.{get}
use Rattle.sqlite_value.specs.Order.{Row}
use Rattle.sqlite_trees.specs.Tree.{Trees}
use Rattle.sqlite.specs.Effect.{Database}
use Rattle.sqlite.specs.State.{State, HasCleanDisk, Survives}
use Rattle.store_tables.specs.Rows.{Tables, HoldsTables}
use Rattle.store_accounts.specs.declared.account.Counters.{Counters}
use Rattle.store_accounts.specs.declared.profile.Profile.{Profile}
use Rattle.store_accounts.specs.declared.report.Plan.{Plan}
use Rattle.store_accounts.specs.declared.refusal.Refusal.{Refusal}
use Rattle.store_accounts.specs.declared.refusal.Refusal.TheVariants.{NoUser}
use Rattle.store_tables.specs.Schema.{mail_schema}
use Rattle.store_tables.specs.Connection.{IsSettled, StaysSame}
use Rattle.store_accounts.specs.Account.{Account, Accounts, open_account_of, renames_script, with_user}
use Rattle.store_accounts.specs.Refusals.{IsTransient}
use Rattle.store_tables.specs.AccountTable.{account_tree}
use Rattle.store_accounts.specs.AccountRows.{HasCounters, profile_of}
use Rattle.store_tables.specs.MessageTable.{message_tree}
use Rattle.store_accounts.specs.MessageRows.{GainsOnce}
use Rattle.store_accounts.specs.Shows.{rows_of, Presents, ShowsIn}

-- a database of our tables
abbrev pub HasOurTables : Database → Type 0
HasOurTables db = (tables : Tables) × HoldsTables mail_schema db tables

-- the user has an account
abbrev pub HasUser : List ℕ → Accounts → Type 0
HasUser user accounts = IsSome (get accounts user)

-- no account has the name
abbrev pub IsFree : List ℕ → Accounts → Type 0
IsFree user accounts = get accounts user ≡ None

-- the user has an account, of which this holds
abbrev pub OfUser : Accounts → List ℕ → (Account → Type 0) → Type 0
OfUser accounts user P = (a : Account) × (get accounts user ≡ Some a) × P a

-- the user has an open account
abbrev pub HasOpen : List ℕ → Accounts → Type 0
HasOpen user accounts = IsSome (open_account_of accounts user)

-- the user has no open account: none at all, or a closed one
abbrev pub HasNoOpen : List ℕ → Accounts → Type 0
HasNoOpen user accounts = open_account_of accounts user ≡ None

-- the user has an open account, of which this holds
abbrev pub OfOpen : Accounts → List ℕ → (Account → Type 0) → Type 0
OfOpen accounts user P = (a : Account) × (open_account_of accounts user ≡ Some a) × P a

-- ---- what holds over our tables

-- whatever rows our tables had, this holds of them
abbrev pub OverTables : State → (Tables → Type 0) → Type 0
OverTables old P = (tables : Tables) → HoldsTables mail_schema old.now tables → P tables

-- whatever accounts the tables showed, this holds of them
abbrev pub OverAccounts : State → (Accounts → Type 0) → Type 0
OverAccounts old P = (accounts : Accounts) → Presents old.now accounts → P accounts

-- ---- reads

-- reads keep all, whatever they return: over our tables what is seen stays; after Ok the connection is open, and one that a fault of the disk has
-- shut stays shut; a crash leaves what it left before
pub record KeepsTables {X E : Type 0} (old new : State) (result : Result X E) : Type 0 where
  pub same : HasCleanDisk new → HasOurTables old.now → StaysSame old new
  pub live : HasCleanDisk new → OnOk result (IsTrue new.is_open)
  pub shut : HasCleanDisk new → IsTrue new.is_open → IsTrue old.is_open
  pub crash : Survives old new (λ _. HasOurTables old.now → ⊥)

-- reads in order, maybe none: over our tables what is seen and the last commit stay, after Ok whatever the connection is; a crash leaves what it left before
pub record KeepsSeen {X E : Type 0} (old new : State) (result : Result X E) : Type 0 where
  pub same : HasCleanDisk new → HasOurTables old.now → StaysSame old new
  pub seen : HasCleanDisk new → HasOurTables old.now → OnOk result ((new.now ≡ old.now) × (new.committed ≡ old.committed))
  pub crash : Survives old new (λ _. HasOurTables old.now → ⊥)

-- a query for the user's rows in one table: it shows this of each
pub record FindsOwn {E : Type 0} (user : List ℕ) (tree : ℕ) (show : Row → Row) (old new : State) (result : Result (Vec Row Global) E) : Type 0 where
  pub found : HasCleanDisk new → OverTables old (λ tables. IfOk result (λ rows. rows.items ≡ map show (rows_of user tables tree)))
  pub keeps : KeepsTables old new result

-- a query for rows of one user: this holds of them and of the user's account, if there is one
pub record FindsUserRows {E : Type 0} (user : List ℕ) (Part : List Row → Account → Type 0) (old new : State) (result : Result (Vec Row Global) E) : Type 0 where
  pub found : HasCleanDisk new → OverAccounts old (λ accounts. IfOk result (λ rows. IfSome (get accounts user) (Part rows.items)))
  pub keeps : KeepsTables old new result

-- a read of one user's open account: this holds of the answer and the account; NoUser is answered only if there is no open account, over an open
-- connection that stays open, and other refusals only if they may come without visible cause
pub record ReadsOpenAccount {X : Type 0} (user : List ℕ) (Part : X → Account → Type 0) (old new : State) (result : Result X Refusal) : Type 0 where
  pub found : HasCleanDisk new → OverAccounts old (λ accounts. IfOk result (λ x. OfOpen accounts user (Part x)))
  pub absent : HasCleanDisk new → OverAccounts old (λ accounts. IfErr result (λ e. e ≡ NoUser → HasNoOpen user accounts))
  pub sure : HasCleanDisk new → IfErr result (λ e. e ≡ NoUser → IsTrue new.is_open)
  pub keeps : KeepsTables old new result
  pub named : IfErr result (λ e. (e ≡ NoUser) ⊎ IsTransient e)

-- a read of an account that was entered, so without a check for it: this holds of the answer and of the account, if there is one; it is refused only
-- without visible cause
pub record ReadsEntered {X : Type 0} (user : List ℕ) (Part : X → Account → Type 0) (old new : State) (result : Result X Refusal) : Type 0 where
  pub found : HasCleanDisk new → OverAccounts old (λ accounts. IfOk result (λ x. IfSome (get accounts user) (Part x)))
  pub keeps : KeepsTables old new result
  pub named : IfErr result IsTransient

-- the read of the counters in the row of the user's account
pub record ReadsCounters (user : List ℕ) (old new : State) (result : Result Counters Refusal) : Type 0 where
  pub found : HasCleanDisk new → OverTables old (λ tables. IfOk result (HasCounters (rows_of user tables account_tree)))
  pub absent : HasCleanDisk new → OverTables old (λ tables. IfErr result (λ e. e ≡ NoUser → rows_of user tables account_tree ≡ []))
  pub keeps : KeepsTables old new result
  pub named : IfErr result (λ e. (e ≡ NoUser) ⊎ IsTransient e)

-- a query for one user: this holds of what it finds and of all rows that the user has
pub record FindsAmong {X E : Type 0} (user : List ℕ) (Part : X → Tables → Type 0) (old new : State) (result : Result X E) : Type 0 where
  pub found : HasCleanDisk new → OverTables old (λ tables. IfOk result (λ x. Part x (rows_of user tables)))
  pub keeps : KeepsTables old new result

-- a read of one user's rows: this holds of the answer and of all that the user has, and the user has an open account; NoUser is answered only if there is none
pub record ReadsOwn {X : Type 0} (user : List ℕ) (Part : X → Tables → Type 0) (old new : State) (result : Result X Refusal) : Type 0 where
  pub found : HasCleanDisk new → OverTables old (λ tables. IfOk result (λ x. Part x (rows_of user tables)))
  pub there : HasCleanDisk new → OverAccounts old (λ accounts. OnOk result (HasOpen user accounts))
  pub absent : HasCleanDisk new → OverAccounts old (λ accounts. IfErr result (λ e. e ≡ NoUser → HasNoOpen user accounts))
  pub sure : HasCleanDisk new → IfErr result (λ e. e ≡ NoUser → IsTrue new.is_open)
  pub keeps : KeepsTables old new result
  pub named : IfErr result (λ e. (e ≡ NoUser) ⊎ IsTransient e)

-- the read of what the store has of an account, open or closed; it returns none without an account
pub record ReadsProfile (user : List ℕ) (old new : State) (result : Result (Option Profile) Refusal) : Type 0 where
  pub found : HasCleanDisk new → OverAccounts old (λ accounts. IfOk result (λ profile. profile ≡ option_map profile_of (get accounts user)))
  pub keeps : KeepsTables old new result
  pub named : IfErr result IsTransient

-- ---- writes

-- the database of our tables has the plan's message once more than these rows
abbrev pub HasStoredOnce : List ℕ → Plan → List Row → Database → Type 0
HasStoredOnce user plan rows db =
    (after : Tables) × HoldsTables mail_schema db after × GainsOnce user plan.message.now plan.filed rows (after message_tree)

-- after Ok the table of messages has the plan's message once more
abbrev pub StoresOnce : {X E : Type 0} → List ℕ → Plan → State → State → Result X E → Type 0
StoresOnce user plan old new result =
    HasCleanDisk new → OverTables old (λ tables. OnOk result (HasStoredOnce user plan (tables message_tree) new.now))

-- if the old tables show accounts that fit, the new ones show them with the change
abbrev pub ChangesAccounts : (Accounts → Type 0) → (Accounts → Accounts) → Database → Database → Type 0
ChangesAccounts Fit change old new = (accounts : Accounts) → Presents old accounts → Fit accounts → Presents new (change accounts)

-- what a crash may leave of a write shows the accounts with the change
abbrev pub CrashLeavesAccounts : (Accounts → Type 0) → (Accounts → Accounts) → State → Trees → Type 0
CrashLeavesAccounts Fit change s trees = (accounts : Accounts) → Presents s.now accounts → Fit accounts → ShowsIn trees (change accounts)

-- a write in one transaction: after Ok the change is made in accounts that fit, and the connection is settled; after a refusal all is as before; a
-- crash leaves what it left before, or the accounts with the change
pub record WritesStore {X : Type 0} (Fit : Accounts → Type 0) (change : Accounts → Accounts) (old new : State) (result : Result X Refusal) : Type 0 where
  pub made : HasCleanDisk new → OnOk result (ChangesAccounts Fit change old.now new.now)
  pub settled : HasCleanDisk new → OnOk result (IsSettled new)
  pub same : HasCleanDisk new → OnErr result (StaysSame old new)
  pub crash : Survives old new (CrashLeavesAccounts Fit change old)
  pub named : IfErr result IsTransient

-- a write that changes one user's account, and no other
abbrev pub WritesUser : {X : Type 0} → List ℕ → (Account → Account) → State → State → Result X Refusal → Type 0
WritesUser user change = WritesStore (HasUser user) (λ all. with_user all user change)

-- the same for an account of which this is known
abbrev pub WritesKnown : {X : Type 0} → List ℕ → (Account → Type 0) → (Account → Account) → State → State → Result X Refusal → Type 0
WritesKnown user Known change = WritesStore (λ all. OfUser all user Known) (λ all. with_user all user change)

-- a write that gives a script another name, of an account of which this is known
abbrev pub Renames : {X : Type 0} → List ℕ → List ℕ → List ℕ → (Account → Type 0) → State → State → Result X Refusal → Type 0
Renames user name other Known = WritesKnown user Known (renames_script name other)

-- a write of one user's account that first checks whether there is one; NoUser is answered only if there is no open one
pub record WritesAccount {X : Type 0} (user : List ℕ) (change : Account → Account) (old new : State) (result : Result X Refusal) : Type 0 where
  pub made : HasCleanDisk new → OnOk result (ChangesAccounts (HasUser user) (λ all. with_user all user change) old.now new.now)
  pub settled : HasCleanDisk new → OnOk result (IsSettled new)
  pub same : HasCleanDisk new → HasOurTables old.now → OnErr result (StaysSame old new)
  pub absent : HasCleanDisk new → OverAccounts old (λ accounts. IfErr result (λ e. e ≡ NoUser → HasNoOpen user accounts))
  pub crash : Survives old new (CrashLeavesAccounts (HasUser user) (λ all. with_user all user change) old)
  pub named : IfErr result (λ e. (e ≡ NoUser) ⊎ IsTransient e)
