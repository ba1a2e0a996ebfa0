-- The definitions of dates as functions, which say what the relations say (laws.rt).
use Rattle.std.specs.Prelude.{ℕ, zero, suc, ◌==◌, ◌&&◌, ◌||◌, nat_lt, Bool, false, cond, Option, Some, None, List, length, ℤ, pos, unsigned_abs}
use Rattle.std.specs.Ordering.{int_eq}
use Rattle.std.specs.Option.{option_and_then}
use Rattle.jiff_core.specs.Calendar.{days_in_month}
use Rattle.mail_dates.specs.declared.date_time.DateTime.{DateTime}
use Rattle.mail_dates.specs.DateTimes.{utc_minutes}
use Rattle.mail_dates.specs.Reading.{piece, parts_from}

-- whether the calendar has this day, of a year from 0 on
unfoldable pub is_civil : ℕ → ℕ → ℕ → Bool
is_civil year month day =
    nat_lt year 10000 && ((nat_lt 0 month && nat_lt month 13) && (nat_lt 0 day && nat_lt day (suc (days_in_month (pos year) month))))

-- whether no piece is left
abbrev pub has_no_piece : Option (List ℕ × List ℕ) → Bool
has_no_piece None = false
has_no_piece (Some first) = length first.0 == 0

-- the date that a text reads as
unfoldable pub date_of : List ℕ → Option DateTime
date_of text = option_and_then (λ r. cond (has_no_piece (piece r.1) && is_civil r.0.year r.0.month r.0.day) (Some r.0) None) (parts_from text)

-- whether some number below this one passes
unfoldable pub some_below : ℕ → (ℕ → Bool) → Bool
some_below zero passes = false
some_below (suc n) passes = passes n || some_below n passes

-- whether some date and time of this zone passes
unfoldable pub some_date : ℤ → (DateTime → Bool) → Bool
some_date zone passes =
    nat_lt (unsigned_abs zone) 1440 && some_below 10000 (λ year. some_below 13 (λ month. some_below 32 (λ day. is_civil year month day
    && some_below 24 (λ hour. some_below 60 (λ minute. some_below 61 (λ second.
    passes (record { year = year; month = month; day = day; hour = hour; minute = minute; second = second; zone = zone })))))))

-- whether the date of the same moment in this zone passes
abbrev pub same_moment_passes : DateTime → ℤ → (DateTime → Bool) → Bool
same_moment_passes date zone passes =
    some_date zone (λ other. (int_eq (utc_minutes other) (utc_minutes date) && (other.second == date.second)) && passes other)

-- whether the date of a moment in this zone passes, given in whole minutes after 1970-01-01T00:00Z and a second
abbrev pub moment_passes : (minutes second : ℕ) → ℤ → (DateTime → Bool) → Bool
moment_passes minutes second zone passes =
    some_date zone (λ date. (int_eq (utc_minutes date) (pos minutes) && (date.second == second)) && passes date)
