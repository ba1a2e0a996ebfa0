-- What rows show of a user's messages on their way out, and what is read of them.
use Rattle.std.specs.Prelude.{◌≡◌, take, ℕ, ℤ, pos, List, [], ◌∷◌, map, Option, option_map, slice_get}
use Rattle.sqlite_value.specs.declared.value.Value.TheVariants.{Int, Blob}
use Rattle.sqlite_value.specs.Order.{Row}
use Rattle.store_tables.specs.QueueTable.{queue_cells, kind_number}
use Rattle.store_accounts.specs.declared.queue.QueuedMessage.{QueuedMessage}
use Rattle.store_accounts.specs.Account.{Account, max_waiting, row_with}
use Rattle.store_accounts.specs.Numbers.{AreNumbered}

abbrev pub queue_row : List ℕ → QueuedMessage → Row
queue_row user out = queue_cells user (pos out.id) out.kind out.sender out.target out.message

-- what the query for the queue shows of a message
abbrev pub outgoing_cells : QueuedMessage → Row
outgoing_cells out = Int (pos out.id) ∷ Int (pos (kind_number out.kind)) ∷ Blob out.sender ∷ Blob out.target ∷ Blob out.message ∷ []

-- the rows are the queue, in the order of its numbers
abbrev pub AreQueueRows : List Row → Account → Type 0
AreQueueRows rows a = rows ≡ map outgoing_cells a.queue

-- these are the numbers of the first rows of the queue, 1,000 at most
abbrev pub AreFirstIds : List ℕ → Account → Type 0
AreFirstIds ids a = ids ≡ take max_waiting (map (λ out. out.id) a.queue)

-- of a number as the database has it: the message of the queue with the number, if there is one
abbrev pub IsOutgoing : ℤ → Option QueuedMessage → Account → Type 0
IsOutgoing id row a = (n : ℕ) → id ≡ pos n → row ≡ row_with n a.queue

-- and the first row shows it
abbrev pub HasOutgoingRow : ℤ → List Row → Account → Type 0
HasOutgoingRow id rows a = (n : ℕ) → id ≡ pos n → slice_get rows 0 ≡ option_map outgoing_cells (row_with n a.queue)

-- the rows are those of the user's queue, which stands in the order of its numbers
abbrev pub ShowsQueue : List ℕ → List Row → List QueuedMessage → ℕ → Type 0
ShowsQueue user rows queue next = AreNumbered (λ q. q.id) (queue_row user) rows queue next
