-- The date and time of a moment, in UTC (RFC 5322, 3.3). A moment is a number of seconds since 1 January 1970.
use Rattle.std.specs.Prelude.{◌≡◌, ℕ, ◌+◌, ◌-◌, ◌/◌, ◌%◌, pos, List, [], ◌∷◌, ◌++◌, codes, decimal, get_or}
use Rattle.jiff_core.specs.Calendar.{IsCivilDate, days_from_civil}

-- the day of the calendar with this number, counted from 0 for 1 January 1970
pub record IsDay (number year month day : ℕ) : Type 0 where
  pub civil : IsCivilDate (pos year) month day
  pub counted : days_from_civil (pos year) month day ≡ pos number

-- the names of the days, from Sunday
abbrev pub day_names : List (List ℕ)
day_names = codes "Sun" ∷ (codes "Mon" ∷ (codes "Tue" ∷ (codes "Wed" ∷ (codes "Thu" ∷ (codes "Fri" ∷ (codes "Sat" ∷ []))))))

-- the names of the months, from January
abbrev pub month_names : List (List ℕ)
month_names =
    codes "Jan" ∷ (codes "Feb" ∷ (codes "Mar" ∷ (codes "Apr" ∷ (codes "May" ∷ (codes "Jun" ∷ (codes "Jul" ∷ (codes "Aug"
    ∷ (codes "Sep" ∷ (codes "Oct" ∷ (codes "Nov" ∷ (codes "Dec" ∷ [])))))))))))

-- a number below 100 in two digits
abbrev pub two_digits_of : ℕ → List ℕ
two_digits_of n = (48 + n / 10) ∷ ((48 + n % 10) ∷ [])

-- `Tue, 14 Nov 2023`: day 0 was a Thursday, and month 1 is January
abbrev pub day_text : ℕ → ℕ → ℕ → ℕ → List ℕ
day_text number year month day =
    get_or day_names ((number + 4) % 7) [] ++ (codes ", " ++ (decimal day ++ (32 ∷ (get_or month_names (month - 1) [] ++ (32 ∷
    (two_digits_of (year / 100) ++ two_digits_of (year % 100)))))))

-- `22:13:20`, the time after that many seconds of a day
abbrev pub clock_text : ℕ → List ℕ
clock_text seconds = two_digits_of (seconds / 3600) ++ (58 ∷ (two_digits_of (seconds / 60 % 60) ++ (58 ∷ two_digits_of (seconds % 60))))

-- the day with the number moment / 86,400, and the time of day
pub record IsUtcDateText (moment : ℕ) (text : List ℕ) : Type 0 where
  pub year : ℕ
  pub month : ℕ
  pub day : ℕ
  pub is_day : IsDay (moment / 86400) year month day
  pub spelled : text ≡ day_text (moment / 86400) year month day ++ (32 ∷ (clock_text (moment % 86400) ++ codes " +0000"))

-- the text of a moment is appended to what was there
pub record WritesDate (moment : ℕ) (old new : List ℕ) : Type 0 where
  pub text : List ℕ
  pub is_text : IsUtcDateText moment text
  pub appended : new ≡ old ++ text
