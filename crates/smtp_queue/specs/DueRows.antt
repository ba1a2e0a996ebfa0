-- Rows of queues that are due, as a store finds them.
use Rattle.std.specs.Prelude.{◌≡◌, Bool, true, ℕ, Option, Some, None, Result, Ok, Err, IfOk}
use Rattle.std.specs.declared.cmp.Ordering.TheVariants.{Less}
use Rattle.sqlite.specs.State.{State, HasCleanDisk}
use Rattle.store_accounts.specs.Account.{Accounts, row_with}
use Rattle.store_accounts.specs.Next.{queued_cmp}
use Rattle.store_accounts.specs.Promises.{KeepsTables, OfOpen, OverAccounts}
use Rattle.store_accounts.specs.declared.next.QueueKey.{QueueKey}
use Rattle.store_accounts.specs.declared.queue.QueuedMessage.{QueuedMessage}
use Rattle.store_accounts.specs.declared.refusal.Refusal.{Refusal}
use Rattle.managesieve_sessions.specs.Acts.{TurnsAccounts}
use Rattle.store_engine.specs.declared.answer.Answer.{Answer}
use Rattle.store_engine.specs.AccountEvents.{Taking}
use Rattle.smtp_send.specs.declared.queue.DueMessage.{DueMessage}
use Rattle.smtp_send.specs.declared.queue.TakenOut.{TakenOut}
use Rattle.smtp_send.specs.declared.queue.TakenOut.TheVariants.{Removed, Gone, Changed}
use Rattle.smtp_queue.specs.Waits as wait
use Rattle.smtp_queue.specs.Waits.{row_key}
use Rattle.smtp_queue.specs.declared.due_row.DueRow.{DueRow}
use Rattle.smtp_queue.specs.declared.due_row.Step.{Step}
use Rattle.smtp_queue.specs.declared.due_row.Step.TheVariants.{End, Past, Due}
use Rattle.smtp_queue.specs.declared.waits.RowWaits.{RowWaits}

-- a place comes after another one: by the octets of the user, and the number
abbrev pub IsKeyAfter : QueueKey → QueueKey → Type 0
IsKeyAfter start row_key = queued_cmp start row_key ≡ Less

-- the user there has an open account, whose queue has this row under the number there
abbrev pub HasRow : Accounts → QueueKey → QueuedMessage → Type 0
HasRow accounts row_key row = OfOpen accounts row_key.user (λ a. row_with row_key.id a.queue ≡ Some row)

-- the row at a place; none if there is none
abbrev pub IsRowAt : QueueKey → Accounts → Option QueuedMessage → Type 0
IsRowAt row_key accounts None = (row : QueuedMessage) → HasRow accounts row_key row → ⊥
IsRowAt row_key accounts (Some row) = HasRow accounts row_key row

-- the row at a place is due at a moment
abbrev pub is_key_due : RowWaits → ℕ → QueueKey → Bool
is_key_due waits now at = wait.is_row_due waits now (row_key at.user at.id)

-- rows that wait, at a moment
module _ (waits : RowWaits) (now : ℕ) where
  -- at none of these places is a row due
  abbrev pub IsNoneDue : (QueueKey → Type 0) → Accounts → Type 0
  IsNoneDue Here accounts = (row_key : QueueKey) (row : QueuedMessage) → Here row_key → HasRow accounts row_key row → is_key_due waits now row_key ≡ true → ⊥

  -- the first row after a place that is due
  pub record IsNextDueRow (start : QueueKey) (accounts : Accounts) (due_row : DueRow) : Type 0 where
    pub after : IsKeyAfter start due_row.place
    pub due : is_key_due waits now due_row.place ≡ true
    pub row : HasRow accounts due_row.place due_row.row
    pub first : IsNoneDue (λ row_key. IsKeyAfter start row_key × IsKeyAfter row_key due_row.place) accounts

  -- that row; none if none is due after the place
  abbrev pub IsDueRowFound : QueueKey → Accounts → Option DueRow → Type 0
  IsDueRowFound start accounts None = IsNoneDue (IsKeyAfter start) accounts
  IsDueRowFound start accounts (Some due_row) = IsNextDueRow start accounts due_row

  -- how far it is to a place after another one: none is due until there
  pub record IsPast (start row_key : QueueKey) (accounts : Accounts) : Type 0 where
    pub after : IsKeyAfter start row_key
    pub none : IsNoneDue (λ other. IsKeyAfter start other × (IsKeyAfter row_key other → ⊥)) accounts

  -- what comes after a place: nothing that is due, or nothing until there, or the first one that is
  abbrev pub IsStep : QueueKey → Accounts → Step → Type 0
  IsStep start accounts End = IsNoneDue (IsKeyAfter start) accounts
  IsStep start accounts (Past row_key) = IsPast start row_key accounts
  IsStep start accounts (Due due_row) = IsNextDueRow start accounts due_row

-- ---- over a store

-- whatever accounts a store showed, it then shows some that these turn into; and if its disk is clean then, it was before
pub record QueueWorks (Turn : Accounts → Accounts → Type 0) (old new : State) : Type 0 where
  pub carries : TurnsAccounts Turn old new
  pub clean : HasCleanDisk new → HasCleanDisk old

-- a read: no account changes, and after Ok this holds of the answer and of the accounts
abbrev pub QueueReads : {X : Type 0} → (Accounts → X → Type 0) → Result X Refusal → Accounts → Accounts → Type 0
QueueReads Part result accounts later = (later ≡ accounts) × IfOk result (Part accounts)

-- what is seen holds of whatever accounts the tables showed, and all stays
pub record Sees {X : Type 0} (Part : Accounts → X → Type 0) (old new : State) (result : Result X Refusal) : Type 0 where
  pub found : HasCleanDisk new → OverAccounts old (λ accounts. IfOk result (Part accounts))
  pub keeps : KeepsTables old new result

-- a row has the octets of one that was sent: its sender, its target and its message
pub record OutgoingHasOctets (sent : DueMessage) (row : QueuedMessage) : Type 0 where
  pub sender : row.sender ≡ sent.sender
  pub target : row.target ≡ sent.target
  pub message : row.message ≡ sent.message

-- the row at a place is the one that was sent, or another one
abbrev pub IsSentRow : QueueKey → DueMessage → Accounts → Type 0
IsSentRow row_key sent accounts = (row : QueuedMessage) × HasRow accounts row_key row × OutgoingHasOctets sent row

abbrev pub IsOtherRow : QueueKey → DueMessage → Accounts → Type 0
IsOtherRow row_key sent accounts = (row : QueuedMessage) × HasRow accounts row_key row × (OutgoingHasOctets sent row → ⊥)

-- the event of the machine that takes the row at a place was answered
abbrev pub IsRowGone : QueueKey → Accounts → Accounts → Type 0
IsRowGone row_key accounts later = (answer : Answer) × Taking accounts row_key.user row_key.id answer later

-- what became of a row that was sent: it was at its place, and that event took it; or it wasn't, and no account changed
abbrev pub TakesSent : QueueKey → DueMessage → TakenOut → Accounts → Accounts → Type 0
TakesSent row_key sent Removed accounts later = IsSentRow row_key sent accounts × IsRowGone row_key accounts later
TakesSent row_key sent Gone accounts later = IsRowAt row_key accounts None × (later ≡ accounts)
TakesSent row_key sent Changed accounts later = IsOtherRow row_key sent accounts × (later ≡ accounts)

-- that; or nothing changed
abbrev pub QueueTakesRow : QueueKey → DueMessage → Result TakenOut Refusal → Accounts → Accounts → Type 0
QueueTakesRow row_key sent (Ok taken) accounts later = TakesSent row_key sent taken accounts later
QueueTakesRow row_key sent (Err refusal) accounts later = later ≡ accounts
