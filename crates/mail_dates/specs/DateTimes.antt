-- What a date and time is, and which moment it is.
use Rattle.std.specs.Prelude.{◌≡◌, ℕ, ◌+◌, ◌*◌, ◌/◌, ◌%◌, ◌<◌, ◌≤◌, ℤ, pos, ◌+ℤ◌, ◌-ℤ◌, ◌*ℤ◌, neg_ℤ}
use Rattle.jiff_core.specs.Calendar.{IsCivilDate, days_from_civil, IsBetween}
use Rattle.mail_dates.specs.declared.date_time.DateTime.{DateTime}

-- minutes east of UTC, less than a day
abbrev pub IsZone : ℤ → Type 0
IsZone minutes = IsBetween (neg_ℤ (pos 1439)) (pos 1439) minutes

-- a day of the calendar from year 0 on, a time of that day, and a zone; second 60 is a leap second
pub record IsDateTime (date : DateTime) : Type 0 where
  pub civil : IsCivilDate (pos date.year) date.month date.day
  pub hour : date.hour < 24
  pub minute : date.minute < 60
  pub second : date.second ≤ 60
  pub zone : IsZone date.zone

-- the number of minutes since the start of 1 January 1970, both by the clock of its zone
unfoldable pub local_minutes : DateTime → ℤ
local_minutes date = (days_from_civil (pos date.year) date.month date.day *ℤ pos 1440) +ℤ pos (date.hour * 60 + date.minute)

-- the number of minutes since 1970-01-01T00:00Z
abbrev pub utc_minutes : DateTime → ℤ
utc_minutes date = local_minutes date -ℤ date.zone

-- that many minutes after the start of -9999-01-01 by the clock of this zone, and a second
pub record IsClock (minutes second : ℕ) (zone : ℤ) (date : DateTime) : Type 0 where
  pub is_date : IsDateTime date
  pub clock : local_minutes date +ℤ pos 6_295_085_280 ≡ pos minutes
  pub second_is : date.second ≡ second
  pub zone_is : date.zone ≡ zone

-- a moment, in seconds after 1970-01-01T00:00Z, in this zone
pub record IsMoment (seconds : ℕ) (zone : ℤ) (date : DateTime) : Type 0 where
  pub is_date : IsDateTime date
  pub zone_is : date.zone ≡ zone
  pub minutes : utc_minutes date ≡ pos (seconds / 60)
  pub second_is : date.second ≡ seconds % 60

-- the same moment in this zone
pub record IsSameMoment (date : DateTime) (zone : ℤ) (other : DateTime) : Type 0 where
  pub is_date : IsDateTime other
  pub zone_is : other.zone ≡ zone
  pub minutes : utc_minutes other ≡ utc_minutes date
  pub second : other.second ≡ date.second
