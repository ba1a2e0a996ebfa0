-- The next message in a folder, and the next row of a queue, over all users.
use Rattle.std.specs.Prelude.{◌≡◌, ◌⊎◌, ◌<◌, ℕ, ℤ, pos, List, [], ◌∷◌, map, Option, Some, None, option_map, slice_get, Result, IfOk}
use Rattle.std.specs.declared.cmp.Ordering.{Ordering}
use Rattle.std.specs.declared.cmp.Ordering.TheVariants.{Less}
use Rattle.std.specs.Ordering.{nat_cmp, on, then_cmp}
use Rattle.sqlite_value.specs.declared.value.Value.TheVariants.{Int, Blob}
use Rattle.sqlite_value.specs.Order.{Row}
use Rattle.sqlite_rules.specs.Lists.{Has}
use Rattle.sqlite.specs.State.{State, HasCleanDisk}
use Rattle.store_tables.specs.Rows.{Tables}
use Rattle.store_tables.specs.CopyTable.{copy_tree}
use Rattle.store_tables.specs.QueueTable.{outgoing_tree}
use Rattle.store_accounts.specs.declared.next.CopyKey.{CopyKey}
use Rattle.store_accounts.specs.declared.next.QueueKey.{QueueKey}
use Rattle.store_accounts.specs.Account.{bytes_cmp}
use Rattle.store_accounts.specs.FirstCells.{first_two, first_three}
use Rattle.store_accounts.specs.Promises.{KeepsTables, OverTables}

-- a read over all users: this holds of what it finds and of all rows
pub record FindsAll {X E : Type 0} (Part : X → Tables → Type 0) (old new : State) (result : Result X E) : Type 0 where
  pub found : HasCleanDisk new → OverTables old (λ tables. IfOk result (λ x. Part x tables))
  pub keeps : KeepsTables old new result

-- ---- the places of messages and rows, and their order

-- by the octets of the user, the octets of the folder, and the number
abbrev pub filed_cmp : CopyKey → CopyKey → Ordering
filed_cmp = then_cmp (on (λ f. f.user) bytes_cmp) (then_cmp (on (λ f. f.folder) bytes_cmp) (on (λ f. f.number) nat_cmp))

-- by the octets of the user, and the number
abbrev pub queued_cmp : QueueKey → QueueKey → Ordering
queued_cmp = then_cmp (on (λ q. q.user) bytes_cmp) (on (λ q. q.id) nat_cmp)

abbrev pub filed_cells : CopyKey → Row
filed_cells f = Blob f.user ∷ Blob f.folder ∷ Int (pos f.number) ∷ []

abbrev pub queue_key_cells : QueueKey → Row
queue_key_cells q = Blob q.user ∷ Int (pos q.id) ∷ []

-- a row of the table of copies says that a message is there
abbrev pub IsFiled : Tables → CopyKey → Type 0
IsFiled tables f = Has (map first_three (tables copy_tree)) (filed_cells f)

-- a row of the table of queues says that one is there
abbrev pub IsQueued : Tables → QueueKey → Type 0
IsQueued tables q = Has (map first_two (tables outgoing_tree)) (queue_key_cells q)

-- ---- the least of those that come after

-- of those that are there and of which this holds it is one, and none of them comes before it; it is none if there is none
abbrev pub IsLeast : {X : Type 0} → (X → X → Ordering) → (X → Type 0) → (X → Type 0) → Option X → Type 0
IsLeast {X} cmp There Holds None = (x : X) → There x → Holds x → ⊥
IsLeast {X} cmp There Holds (Some least) = There least × Holds least × ((x : X) → There x → Holds x → ¬ (cmp x least ≡ Less))

-- the first message after this place, over all users and folders
abbrev pub IsNextFiled : CopyKey → Option CopyKey → Tables → Type 0
IsNextFiled start next tables = IsLeast filed_cmp (IsFiled tables) (λ f. filed_cmp start f ≡ Less) next

-- the first row of a queue after this one, over all users
abbrev pub IsNextQueued : QueueKey → Option QueueKey → Tables → Type 0
IsNextQueued start next tables = IsLeast queued_cmp (IsQueued tables) (λ q. queued_cmp start q ≡ Less) next

-- ---- the parts that the keys find

-- with a higher number in the same folder; in a later folder of the same user; of a later user
abbrev pub IsLaterNumber : List ℕ → List ℕ → ℕ → CopyKey → Type 0
IsLaterNumber user folder n f = (f.user ≡ user) × (f.folder ≡ folder) × (n < f.number)

abbrev pub IsLaterFolder : List ℕ → List ℕ → CopyKey → Type 0
IsLaterFolder user folder f = (f.user ≡ user) × (bytes_cmp folder f.folder ≡ Less)

-- after this place in its folder; after it among the messages of its user
abbrev pub IsLaterInFolder : CopyKey → CopyKey → Type 0
IsLaterInFolder start = IsLaterNumber start.user start.folder start.number

abbrev pub IsLaterOfUser : CopyKey → CopyKey → Type 0
IsLaterOfUser start f = IsLaterInFolder start f ⊎ IsLaterFolder start.user start.folder f

abbrev pub IsLaterOwner : List ℕ → CopyKey → Type 0
IsLaterOwner user f = bytes_cmp user f.user ≡ Less

-- with a higher number in the same queue; of a later user
abbrev pub IsLaterId : List ℕ → ℕ → QueueKey → Type 0
IsLaterId user id q = (q.user ≡ user) × (id < q.id)

abbrev pub IsLaterQueue : List ℕ → QueueKey → Type 0
IsLaterQueue user q = bytes_cmp user q.user ≡ Less

-- whatever the first row shows is the least
abbrev pub ShowLeast : {X : Type 0} → (X → Row) → (Row → Row) → (X → X → Ordering) → (X → Type 0) → (X → Type 0) → List Row → Type 0
ShowLeast {X} shows cut cmp There Holds rows = (least : Option X) → option_map shows least ≡ option_map cut (slice_get rows 0) → IsLeast cmp There Holds least

abbrev pub ShowFiled : (CopyKey → Type 0) → List Row → Tables → Type 0
ShowFiled Holds rows tables = ShowLeast filed_cells first_three filed_cmp (IsFiled tables) Holds rows

abbrev pub ShowQueued : (QueueKey → Type 0) → List Row → Tables → Type 0
ShowQueued Holds rows tables = ShowLeast queue_key_cells first_two queued_cmp (IsQueued tables) Holds rows

-- for a number as the database has it
abbrev pub ShowLaterNumber : List ℕ → List ℕ → ℤ → List Row → Tables → Type 0
ShowLaterNumber user folder n rows tables = (m : ℕ) → n ≡ pos m → ShowFiled (IsLaterNumber user folder m) rows tables

abbrev pub ShowLaterId : List ℕ → ℤ → List Row → Tables → Type 0
ShowLaterId user id rows tables = (m : ℕ) → id ≡ pos m → ShowQueued (IsLaterId user m) rows tables

-- it is the least of them
abbrev pub LeastFiled : (CopyKey → Type 0) → Option CopyKey → Tables → Type 0
LeastFiled Holds next tables = IsLeast filed_cmp (IsFiled tables) Holds next

abbrev pub LeastQueued : (QueueKey → Type 0) → Option QueueKey → Tables → Type 0
LeastQueued Holds next tables = IsLeast queued_cmp (IsQueued tables) Holds next
