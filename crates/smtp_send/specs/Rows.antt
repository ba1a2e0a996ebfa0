-- The rows of all queues.
use Rattle.std.specs.Prelude.{◌≡◌, ℕ, Bool, true, List, Option, Some, None}
use Rattle.smtp_send.specs.declared.queue.DueMessage.{DueMessage}
use Rattle.smtp_send.specs.declared.queue.TakenOut.{TakenOut}
use Rattle.smtp_send.specs.declared.queue.TakenOut.TheVariants.{Removed, Gone, Changed}

-- what a row has, and whether it is due
pub record Content : Type 0 where
  pub sender : List ℕ
  pub target : List ℕ
  pub message : List ℕ
  pub is_due : Bool

-- the row of a user with a number, if there is one
abbrev pub Rows : Type 0
Rows = List ℕ → ℕ → Option Content

-- that of a row that was answered, which is due
abbrev pub row_content : DueMessage → Content
row_content row = record { sender = row.sender; target = row.target; message = row.message; is_due = true }

-- a row that was answered is there, and it is due
abbrev pub IsThere : DueMessage → Rows → Type 0
IsThere row rows = rows row.user row.id ≡ Some (row_content row)

-- the user's row with the number is gone, and no other row changed
pub record TakesOut (user : List ℕ) (id : ℕ) (before after : Rows) : Type 0 where
  pub gone : after user id ≡ None
  pub others : (other : List ℕ) (number : ℕ) → (other ≡ user → number ≡ id → ⊥) → after other number ≡ before other number

-- what a row has is a row's own sender, target and message, whether it is due or not
pub record RowHasOctets (row : DueMessage) (content : Content) : Type 0 where
  pub sender : content.sender ≡ row.sender
  pub target : content.target ≡ row.target
  pub message : content.message ≡ row.message

-- a row is in its user's queue: its number is there, and its octets are
abbrev pub RowStands : DueMessage → Rows → Type 0
RowStands row rows = (content : Content) × (rows row.user row.id ≡ Some content) × RowHasOctets row content

-- another row has its number
abbrev pub IsChanged : DueMessage → Rows → Type 0
IsChanged row rows = (content : Content) × (rows row.user row.id ≡ Some content) × (RowHasOctets row content → ⊥)

-- what became of a row that was to be taken out: it was there, and left; or it wasn't, and no row changed
abbrev pub RowTakenOut : DueMessage → TakenOut → Rows → Rows → Type 0
RowTakenOut row Removed before after = RowStands row before × TakesOut row.user row.id before after
RowTakenOut row Gone before after = (before row.user row.id ≡ None) × (after ≡ before)
RowTakenOut row Changed before after = IsChanged row before × (after ≡ before)
