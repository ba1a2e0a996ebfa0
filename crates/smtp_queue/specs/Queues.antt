-- The rows of the queues of accounts.
use Rattle.std.specs.Prelude.{◌≡◌, ℕ, Bool, true, List, Option, Some, None, Result, Ok, Err, option_map, IsTrue, IfOk, IfSome}
use Rattle.sqlite_trees.specs.declared.store.Store.{Ghosts}
use Rattle.sqlite.specs.Effect.{Database}
use Rattle.sqlite.specs.Held.{Held, state}
use Rattle.store_accounts.specs.Account.{Account, Accounts, open_account_of, row_with}
use Rattle.store_accounts.specs.Shows.{OffersAccounts}
use Rattle.store_accounts.specs.declared.queue.QueuedMessage.{QueuedMessage}
use Rattle.managesieve_sessions.specs.Acts.{HasAccounts}
use Rattle.smtp_send.specs.Rows.{Rows, Content, row_content}
use Rattle.smtp_send.specs.declared.queue.DueMessage.{DueMessage}
use Rattle.smtp_send.specs.declared.queue.TakenOut.{TakenOut}
use Rattle.smtp_queue.specs.Waits as wait
use Rattle.smtp_queue.specs.Waits.{row_key}
use Rattle.smtp_queue.specs.declared.waits.RowWaits.{RowWaits}
use Rattle.store_accounts.specs.declared.next.QueueKey.{QueueKey}
use Rattle.store_lock.specs.declared.held_store.HeldStore.{HeldStore}
use Rattle.store_lock.specs.declared.keeper.StoreUnavailable.{StoreUnavailable}
use Rattle.smtp_queue.specs.DueRows.{HasRow, IsDueRowFound, TakesSent, is_key_due}
use Rattle.smtp_queue.specs.declared.due_row.DueRow.{DueRow}

-- what a row has
abbrev pub content : Bool → QueuedMessage → Content
content due out = record { sender = out.sender; target = out.target; message = out.message; is_due = due }

-- the row with a number in an account's queue
abbrev pub row_in : Option Account → ℕ → Bool → Option Content
row_in None id due = None
row_in (Some a) id due = option_map (content due) (row_with id a.queue)

-- rows that wait, at a moment
module _ (waits : RowWaits) (now : ℕ) where
  -- the rows of the queues of open accounts, with those that are due
  abbrev pub rows_in : Accounts → Rows
  rows_in accounts user id = row_in (open_account_of accounts user) id (wait.is_row_due waits now (row_key user id))

  -- they are these
  abbrev pub AreRows : Accounts → Rows → Type 0
  AreRows accounts rows = (user : List ℕ) (id : ℕ) → rows user id ≡ rows_in accounts user id

  -- a row that was found is in its user's queue, and is due
  abbrev pub IsDueRowIn : Accounts → Option DueRow → Type 0
  IsDueRowIn accounts found = IfSome found (λ due_row. HasRow accounts due_row.place due_row.row × (is_key_due waits now due_row.place ≡ true))

-- ---- a keeper, and its store while that is held

-- no account changes, and if a row was found it is the first one that is due after a place; none is found if there is none
abbrev pub QueueFinds : RowWaits → ℕ → QueueKey → Result (Option DueRow) StoreUnavailable → Accounts → Accounts → Type 0
QueueFinds waits now start result accounts later = (later ≡ accounts) × IfOk result (IsDueRowFound waits now start accounts)

-- the row that was sent was taken out at its place, or it wasn't there; or no account changes
abbrev pub QueueRemoves : QueueKey → DueMessage → Result TakenOut StoreUnavailable → Accounts → Accounts → Type 0
QueueRemoves row_key sent (Ok taken) accounts later = TakesSent row_key sent taken accounts later
QueueRemoves row_key sent (Err denial) accounts later = later ≡ accounts

abbrev pub store_and_keeper : {K S : Type 0} → Option (Held S) → K → HeldStore K S
store_and_keeper store keeper = record { store = store; keeper = keeper }

module _ {S : Type 0} (g : Ghosts S) where
  -- while it is held the store shows the accounts; otherwise the keeper's tables offer them
  abbrev pub QueueShows : Database → Option (Held S) → Accounts → Type 0
  QueueShows db (Some store) accounts = HasAccounts (state g store) accounts
  QueueShows db None accounts = OffersAccounts db accounts

  module _ (tells : Bool) where
    -- they have these rows, with those that are due; of a keeper that tells its tables
    pub record ShowsRows (waits : RowWaits) (now : ℕ) (db : Database) (store : Option (Held S)) (rows : Rows) : Type 0 where
      pub told : IsTrue tells
      pub accounts : Accounts
      pub shown : QueueShows db store accounts
      pub are : AreRows waits now accounts rows

    -- the tables of a keeper that has its store have these rows, with those that some waits let be due at some moment
    abbrev pub ShowsSome : Database → Rows → Type 0
    ShowsSome db rows = (waits : RowWaits) × (now : ℕ) × ShowsRows waits now db None rows

    module _ {K : Type 0} (holds : K → Database) where
      -- whatever accounts were shown, some that these turn into are shown then
      abbrev pub TurnsShown : (Accounts → Accounts → Type 0) → HeldStore K S → HeldStore K S → Type 0
      TurnsShown Turn before after =
          IsTrue tells → (accounts : Accounts) → QueueShows (holds before.keeper) before.store accounts
          → (next : Accounts) × Turn accounts next × QueueShows (holds after.keeper) after.store next

      -- they are shown still
      abbrev pub QueueStillShows : HeldStore K S → HeldStore K S → Type 0
      QueueStillShows before after =
          IsTrue tells → (accounts : Accounts) → QueueShows (holds before.keeper) before.store accounts → QueueShows (holds after.keeper) after.store accounts

-- the row that was found is told as one of these accounts
abbrev pub IsRowTold : Option DueRow → Option DueMessage → Type 0
IsRowTold found told = (waits : RowWaits) (now : ℕ) (accounts : Accounts) → IsDueRowIn waits now accounts found
    → IfSome told (λ row. rows_in waits now accounts row.user row.id ≡ Some (row_content row))
