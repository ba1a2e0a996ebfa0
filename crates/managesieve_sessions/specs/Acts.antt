-- How a call changes the accounts that a store shows.
use Rattle.std.specs.Prelude.{◌≡◌, ◌⊎◌, Result, Ok, Err, OnOk, OnErr, IfOk, IfErr, IsTrue}
use Rattle.sqlite_trees.specs.Tree.{Trees}
use Rattle.sqlite.specs.State.{State, HasCleanDisk, Survives}
use Rattle.store_accounts.specs.declared.refusal.Refusal.{Refusal}
use Rattle.store_accounts.specs.Account.{Accounts}
use Rattle.store_accounts.specs.Connection.{StaysSame, IsSettled, LeavesAsBefore}
use Rattle.store_accounts.specs.Promises.{HasOurTables}
use Rattle.store_accounts.specs.Refusals.{IsTransient}
use Rattle.store_accounts.specs.Shows.{Presents, ShowsIn}

-- the tables show the accounts; if a fault of the disk has shut the connection, nothing is said
abbrev pub HasAccounts : State → Accounts → Type 0
HasAccounts s accounts = IsTrue s.is_open → Presents s.now accounts

-- whatever accounts the store showed, it then shows some that these turn into
abbrev pub TurnsAccounts : (Accounts → Accounts → Type 0) → State → State → Type 0
TurnsAccounts Turn old new = HasCleanDisk new → (accounts : Accounts) → HasAccounts old accounts → (later : Accounts) × Turn accounts later × HasAccounts new later

-- what a crash leaves shows accounts that these may turn into, as a whole
abbrev pub CrashLeaves : (Accounts → Accounts → Type 0) → State → Trees → Type 0
CrashLeaves MayTurn s trees = (accounts : Accounts) → Presents s.now accounts → (later : Accounts) × MayTurn accounts later × ShowsIn trees later

-- the call answered, and not with a refusal that may come without visible cause
abbrev pub IsCallAnswered : {X : Type 0} → Result X Refusal → Type 0
IsCallAnswered (Ok x) = Unit {0}
IsCallAnswered (Err refusal) = IsTransient refusal → ⊥

-- nothing changed: what the connection sees stays, and a crash leaves what it left before
pub record StoreStays (old new : State) : Type 0 where
  pub same : StaysSame old new
  pub crash : LeavesAsBefore old new

-- a connection that was open is still open after Ok; if a fault of the disk had shut it before the call, nothing is said
abbrev pub StaysOpen : {X : Type 0} → State → State → Result X Refusal → Type 0
StaysOpen old new result = HasCleanDisk new → IsTrue old.is_open → OnOk result (IsTrue new.is_open)

-- the store is open and shows these accounts afterwards, and whatever a crash leaves shows them; or no account changed, and a crash could leave it before
pub record Lasts (accounts later : Accounts) (old new : State) : Type 0 where
  pub is_open : IsTrue new.is_open
  pub shown : Presents new.now later
  pub crash : (trees : Trees) → new.may_leave trees → ShowsIn trees later ⊎ ((later ≡ accounts) × old.may_leave trees)

-- Ok lasts: over a connection that was open, whatever accounts it showed turned into others, which the store shows, and so does what a crash leaves
abbrev pub Durable : {X : Type 0} → (Accounts → Accounts → Type 0) → State → State → Result X Refusal → Type 0
Durable Turn old new result =
    HasCleanDisk new → IsTrue old.is_open → (accounts : Accounts) → Presents old.now accounts
    → OnOk result ((later : Accounts) × Turn accounts later × Lasts accounts later old new)

-- a call over the store: how the accounts turn; after a refusal all is as before; an open connection is still open after Ok, and one that a
-- fault of the disk has shut stays shut; a crash leaves what it left before, or accounts that these may turn into; and after an answer it
-- leaves only the accounts as they then are, unless nothing changed; so Ok lasts
pub record Acts {X : Type 0} (Turn MayTurn : Accounts → Accounts → Type 0) (old new : State) (result : Result X Refusal) : Type 0 where
  pub carries : TurnsAccounts Turn old new
  pub same : HasCleanDisk new → HasOurTables old.now → OnErr result (StaysSame old new)
  pub live : StaysOpen old new result
  pub shut : HasCleanDisk new → IsTrue new.is_open → IsTrue old.is_open
  pub crash : Survives old new (CrashLeaves MayTurn old)
  pub durable : HasCleanDisk new → HasOurTables old.now → IsCallAnswered result → IsSettled new ⊎ StoreStays old new
  pub lasts : Durable Turn old new result

-- reads, if any: what the connection sees stays, one that a fault of the disk has shut stays shut, and a crash leaves what it left before
pub record Glances (old new : State) : Type 0 where
  pub same : HasCleanDisk new → HasOurTables old.now → StaysSame old new
  pub shut : HasCleanDisk new → IsTrue new.is_open → IsTrue old.is_open
  pub crash : Survives old new (λ _. HasOurTables old.now → ⊥)

-- a read of the accounts, if any: this holds of the answer and of whatever accounts the store showed; an open connection is still open after
-- Ok; the only refusals are those that may come without visible cause
pub record ReadsAccounts {X : Type 0} (Part : X → Accounts → Type 0) (old new : State) (result : Result X Refusal) : Type 0 where
  pub found : HasCleanDisk new → (accounts : Accounts) → HasAccounts old accounts → IfOk result (λ x. Part x accounts)
  pub live : StaysOpen old new result
  pub glances : Glances old new
  pub named : IfErr result IsTransient
