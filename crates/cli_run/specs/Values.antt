-- The values in arguments.
use Rattle.std.specs.Prelude.{◌≡◌, ◌⊎◌, ℕ, pos, ◌<◌, ◌≤◌, ◌^◌, List, [], ◌∷◌, Option, Some, None, Ok}
use Rattle.hex.specs.Hex.{decode_sized}
use Rattle.maildir_files.specs.Spelling.{separator_octet}
use Rattle.maildir_files.specs.declared.separator.Separator.{Separator}
use Rattle.maildir_files.specs.declared.separator.Separator.TheVariants.{Dot}
use Rattle.octets.specs.Decimal.{Writes}
use Rattle.mail_dates.specs.HostZones.{IsZoneText, IsOffsetAt}
use Rattle.mail_dates.specs.declared.host_zone.HostZone.{HostZone}
use Rattle.sieve_exec.specs.declared.envelope.Envelope.{Envelope}
use Rattle.store_engine.specs.declared.terms.Terms.{Terms}
use Rattle.cli_run.specs.declared.host_texts.HostTexts.{HostTexts}

-- the text isn't a number of 64 bits
abbrev pub IsNoNumber : List ℕ → Type 0
IsNoNumber digits = (number : ℕ) → number < 2 ^ 64 → Writes digits number → ⊥

-- the argument is there, and isn't a number
abbrev pub HasNoNumber : Option (List ℕ) → Type 0
HasNoNumber (Some digits) = IsNoNumber digits
HasNoNumber None = ⊥

-- 32 hexadecimal digits, in either case, write these 16 octets
abbrev pub WritesSalt : List ℕ → List ℕ → Type 0
WritesSalt digits salt = decode_sized digits 16 ≡ Ok salt

-- these digits write no port
abbrev pub IsNoPort : List ℕ → Type 0
IsNoPort digits = (port : ℕ) → port < 65536 → Writes digits port → ⊥

-- these digits write no size from 1 to 65,536 MiB
abbrev pub IsNoSize : List ℕ → Type 0
IsNoSize digits = (size : ℕ) → 1 ≤ size → size ≤ 65536 → Writes digits size → ⊥

-- these digits write no moment that the database can hold, in seconds since 1970
abbrev pub IsNoUntil : List ℕ → Type 0
IsNoUntil digits = (until : ℕ) → until < 2 ^ 63 → Writes digits until → ⊥

-- the text isn't a salt
abbrev pub IsNoSalt : List ℕ → Type 0
IsNoSalt digits = (salt : List ℕ) → WritesSalt digits salt → ⊥

-- the salt that the argument has in hexadecimal digits, or else the system's random octets
abbrev pub IsSalt : Option (List ℕ) → Option (List ℕ) → List ℕ → Type 0
IsSalt (Some digits) random salt = WritesSalt digits salt
IsSalt None random salt = random ≡ Some salt

-- the argument is there, and isn't a salt
abbrev pub HasNoSalt : Option (List ℕ) → Type 0
HasNoSalt (Some digits) = IsNoSalt digits
HasNoSalt None = ⊥

-- the moment that the argument has in decimal, or else the clock's
abbrev pub IsGivenMoment : Option (List ℕ) → Option ℕ → ℕ → Type 0
IsGivenMoment (Some digits) clock moment = Writes digits moment
IsGivenMoment None clock moment = clock ≡ Some moment

-- the text isn't a zone of a host
abbrev pub IsNoZone : List ℕ → Type 0
IsNoZone text = (zone : HostZone) → IsZoneText text zone → ⊥

-- the zone in the argument; UTC if there is none
abbrev pub IsHostZone : Option (List ℕ) → HostZone → Type 0
IsHostZone (Some text) zone = IsZoneText text zone
IsHostZone None zone = (moment : ℕ) → IsOffsetAt zone moment (pos 0)

-- under what a message is delivered: at the moment that the argument has in decimal, or else the clock's, in the zone of the
-- argument, by a host with these scripts
pub record AreTerms (at zone : Option (List ℕ)) (clock : Option ℕ) (host : HostTexts) (terms : Terms) : Type 0 where
  pub dated : IsGivenMoment at clock terms.when.moment
  pub zoned : IsHostZone zone terms.host.zone
  pub clocked : IsOffsetAt terms.host.zone terms.when.moment terms.when.zone
  pub scripted : terms.host.default ≡ host.default
  pub surrounded : terms.host.scripts ≡ host.scripts

-- the argument is there, and isn't a zone
abbrev pub HasNoZone : Option (List ℕ) → Type 0
HasNoZone (Some text) = IsNoZone text
HasNoZone None = ⊥

-- the argument for a moment isn't a number, or the one for a zone isn't a zone
abbrev pub HasNoWhen : Option (List ℕ) → Option (List ℕ) → Type 0
HasNoWhen at zone = HasNoNumber at ⊎ HasNoZone zone

-- the separator of the levels of folders: `.` if it is left out
abbrev pub IsSeparator : Option (List ℕ) → Separator → Type 0
IsSeparator (Some text) separator = text ≡ separator_octet separator ∷ []
IsSeparator None separator = separator ≡ Dot

-- the argument is something else
abbrev pub HasNoSeparator : Option (List ℕ) → Type 0
HasNoSeparator text = (separator : Separator) → IsSeparator text separator → ⊥

-- the envelope of these addresses
abbrev pub envelope_with : List ℕ → List ℕ → Envelope
envelope_with from to = record { from = from; to = to }
