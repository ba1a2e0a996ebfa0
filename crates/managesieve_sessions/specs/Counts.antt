-- A session as contracts see it: its client, and how many octets came and were scanned.
use Rattle.std.specs.Prelude.{◌≡◌, ℕ, ◌+◌, ◌-◌, ◌≤◌, ◌^◌, Bool, cond, List, length, take, min}
use Rattle.managesieve_protocol.specs.declared.items.ItemExtent.TheVariants.{Need}
use Rattle.managesieve_protocol.specs.Scanning.{ScanView, IsScanOf, new_scan, fed_until, reached}
use Rattle.managesieve_sessions.specs.Clients.{Client, new_client, reach_in, is_item}

-- the largest number of 64 bits, at which a count stays
abbrev pub greatest : ℕ
greatest = 2 ^ 64 - 1

-- a session: its client, and how many octets came and were scanned
pub record SessionView : Type 0 where
  pub client : Client
  -- how many octets came in pieces
  pub given : ℕ
  -- how many octets were scanned in items that are taken off
  pub scanned : ℕ

abbrev pub new_session : SessionView
new_session = record { client = new_client; given = 0; scanned = 0 }

-- the count of the octets given, after a piece; a closed session doesn't count
abbrev pub given_more : List ℕ → SessionView → ℕ
given_more piece s = cond s.client.closed s.given (min (s.given + length piece) greatest)

-- the scan of the unread octets: they are taken until there is a first item
abbrev pub scan_in : Client → ScanView
scan_in c = fed_until (new_scan c.pending) c.unread

-- how many octets were scanned: by the scans before, and by this one
abbrev pub looked_in : SessionView → ℕ
looked_in s = min (s.scanned + (scan_in s.client).looked) greatest

-- the count of the scans before, after the first item, if there is one, is taken off
abbrev pub scanned_past : SessionView → ℕ
scanned_past s = cond (is_item (reach_in s.client)) (looked_in s) s.scanned

-- the same if the session may have ended, which takes nothing off
abbrev pub scanned_in_step : SessionView → ℕ
scanned_in_step s = cond s.client.closed s.scanned (scanned_past s)

-- the scan is that of the unread octets, and no more were scanned than came
pub record IsScanned (pending : Bool) (scan : ScanView) (unread : List ℕ) (scanned given : ℕ) : Type 0 where
  pub until : scan ≡ fed_until (new_scan pending) unread
  pub seen : scan.looked ≤ length unread
  pub stands : IsScanOf pending scan (take scan.looked unread)
  pub waits : reached scan ≡ Need → scan.looked ≡ length unread
  pub counted : min (scanned + length unread) greatest ≤ given
