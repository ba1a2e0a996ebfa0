-- The zone of a host: how it is written, and its offset at a moment.
use Rattle.std.specs.Prelude.{◌≡◌, ℕ, ℤ, pos, ◌*ℤ◌, List, Some, None}
use Rattle.jiff_tz.specs.PosixReader.{read_whole}
use Rattle.jiff_tz.specs.PosixRule.{offset_at}
use Rattle.jiff_tz.specs.PosixText.{tz_view}
use Rattle.mail_dates.specs.Zones.{numeric_of}
use Rattle.mail_dates.specs.Offsets.{nanos_at}
use Rattle.mail_dates.specs.declared.host_zone.HostZone.{HostZone}
use Rattle.mail_dates.specs.declared.host_zone.HostZone.TheVariants.{Always, ByRule}

-- the text that writes the zone: +hhmm or -hhmm (RFC 5260, 4.1), or a rule
abbrev pub IsZoneText : List ℕ → HostZone → Type 0
IsZoneText text (Always offset) = numeric_of text ≡ Some offset.minutes
IsZoneText text (ByRule zone) = (numeric_of text ≡ None) × (read_whole text ≡ Some (tz_view zone.rule))

-- how many minutes east of UTC it is at a moment, in seconds since 1970-01-01 UTC
abbrev pub IsOffsetAt : HostZone → ℕ → ℤ → Type 0
IsOffsetAt (Always offset) moment minutes = minutes ≡ offset.minutes
IsOffsetAt (ByRule zone) moment minutes = minutes *ℤ pos 60 ≡ (offset_at zone.rule (nanos_at moment)).seconds
