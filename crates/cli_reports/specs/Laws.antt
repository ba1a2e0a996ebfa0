-- What a line of a queue, and the listing of a whole queue, say about the rows.
use Rattle.std.specs.Prelude.{◌≡◌, ◌<◌, ◌^◌, ℕ, true, List, [], ◌∷◌}
use Rattle.std.specs.List.{list_all}
use Rattle.store_accounts.specs.declared.queued_envelope.QueuedEnvelope.{QueuedEnvelope}
use Rattle.cli_reports.specs.Addresses.{may_stand, shown_address}
use Rattle.cli_reports.specs.Listings.{queue_line, queue_listing}

-- a row as the program has them: its numbers have 64 bits
pub record IsQueueRow (row : QueuedEnvelope) : Type 0 where
  pub id_fits : row.id < 2 ^ 64
  pub octets_fit : row.len < 2 ^ 64

abbrev pub AreRows : List QueuedEnvelope → Type 0
AreRows [] = Unit {0}
AreRows (row ∷ more) = IsQueueRow row × AreRows more

-- rows that have the same line are the same: number, kind, sender, target, and how many octets the message has
abbrev pub LinesTell : Type 0
LinesTell = (one two : QueuedEnvelope) → IsQueueRow one → IsQueueRow two → queue_line one ≡ queue_line two → one ≡ two

-- queues that have the same listing are the same, row by row
abbrev pub ListingsTell : Type 0
ListingsTell = (one two : List QueuedEnvelope) → AreRows one → AreRows two → queue_listing one ≡ queue_listing two → one ≡ two

-- an address that is shown has no blank, no angle bracket and no control octet
abbrev pub AddressesStand : Type 0
AddressesStand = (address : List ℕ) → list_all may_stand (shown_address address) ≡ true
