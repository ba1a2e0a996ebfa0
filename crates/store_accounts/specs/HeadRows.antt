-- What rows show of a user's queue without its messages.
use Rattle.std.specs.Prelude.{◌≡◌, pos, List, [], ◌∷◌, length, map}
use Rattle.sqlite_value.specs.declared.value.Value.TheVariants.{Int, Blob}
use Rattle.sqlite_value.specs.Order.{Row}
use Rattle.store_tables.specs.QueueTable.{kind_number}
use Rattle.store_accounts.specs.declared.queue.QueuedMessage.{QueuedMessage}
use Rattle.store_accounts.specs.declared.queued_envelope.QueuedEnvelope.{QueuedEnvelope}
use Rattle.store_accounts.specs.Account.{Account}

-- a message on its way out without its octets, with how many they are
abbrev pub queued_envelope : QueuedMessage → QueuedEnvelope
queued_envelope out = record { id = out.id; kind = out.kind; sender = out.sender; target = out.target; len = length out.message }

-- what the query for them shows of one
abbrev pub head_cells : QueuedEnvelope → Row
head_cells head = Int (pos head.id) ∷ Int (pos (kind_number head.kind)) ∷ Blob head.sender ∷ Blob head.target ∷ Int (pos head.len) ∷ []

-- the rows are the queue's, in the order of its numbers
abbrev pub AreHeadRows : List Row → Account → Type 0
AreHeadRows rows a = rows ≡ map head_cells (map queued_envelope a.queue)
