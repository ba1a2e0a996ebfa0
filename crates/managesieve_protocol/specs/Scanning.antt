-- The first item of a stream as a function of the stream, to compute with.
use Rattle.std.specs.Prelude.{◌≡◌, ℕ, ◌+◌, Bool, true, false, ◌||◌, ◌&&◌, ◌==◌, cond, nat_lt, List, [], ◌∷◌, fold}
use Rattle.managesieve_protocol.specs.Machine.{LineState, start_state, step, weight, is_large, ends_command, is_dead, Body}
use Rattle.managesieve_protocol.specs.declared.items.ItemExtent.{ItemExtent}
use Rattle.managesieve_protocol.specs.declared.items.ItemExtent.TheVariants.{Need, Command, Bad, TooBig}

-- what is known of the octets so far: the state after them, how many of them are outside literals and how many there are; or the first item
pub data Scanned : Type 0 where
  Open : LineState → ℕ → ℕ → Scanned
  Found : ItemExtent → Scanned

-- the same after one octet more
abbrev pub scan_step : Scanned → ℕ → Scanned
scan_step (Open state outside used) octet =
    cond (nat_lt 8192 (outside + weight state) || (is_large state && octet == 10)) (Found TooBig)
    (cond (ends_command (step state octet)) (Found (Command (used + 1)))
    (cond (is_dead (step state octet) && octet == 10) (Found (Bad (used + 1)))
    (Open (step state octet) (outside + weight state) (used + 1))))
scan_step (Found reach) octet = Found reach

-- before the first octet
abbrev pub scan_start : Bool → Scanned
scan_start pending = Open (start_state pending) 0 0

-- after a text
abbrev pub scanned : Bool → List ℕ → Scanned
scanned pending text = fold scan_step (scan_start pending) text

-- what was found
abbrev pub found : Scanned → ItemExtent
found (Open state outside used) = Need
found (Found reach) = reach

-- the first item of the stream, without its value
abbrev pub extent_of : Bool → List ℕ → ItemExtent
extent_of pending stream = found (scanned pending stream)

-- how many octets of a literal come next
abbrev pub literal_rest : Scanned → ℕ
literal_rest (Open (Body left params) outside used) = left + 1
literal_rest _ = 0

-- ---- a scan of a stream that comes in pieces

-- what a scan keeps: what is known of the octets that it took, and how many they are
pub record ScanView : Type 0 where
  pub known : Scanned
  pub looked : ℕ

-- before the first octet
abbrev pub new_scan : Bool → ScanView
new_scan pending = record { known = scan_start pending; looked = 0 }

-- after one octet more
abbrev pub fed : ScanView → ℕ → ScanView
fed scan octet = record { known = scan_step scan.known octet; looked = scan.looked + 1 }

-- the first item in the octets so far
abbrev pub reached : ScanView → ItemExtent
reached scan = found scan.known

-- whether there is a first item
abbrev pub is_reached : ItemExtent → Bool
is_reached Need = false
is_reached _ = true

-- after the octets of a piece, which are taken until there is a first item
abbrev pub fed_until : ScanView → List ℕ → ScanView
fed_until scan [] = scan
fed_until scan (octet ∷ rest) = cond (is_reached (reached scan)) scan (fed_until (fed scan octet) rest)

-- the first item ends with the last octet that was taken
abbrev pub ItemEndsAt : ItemExtent → ℕ → Type 0
ItemEndsAt (Command used) looked = used ≡ looked
ItemEndsAt (Bad used) looked = used ≡ looked
ItemEndsAt _ looked = Unit {0}

-- the scan is that of these octets: a new one for none, and one that took an octet more for those before and that octet
abbrev pub IsScanOf : Bool → ScanView → List ℕ → Type 0
IsScanOf pending scan text = scan ≡ fold fed (new_scan pending) text
