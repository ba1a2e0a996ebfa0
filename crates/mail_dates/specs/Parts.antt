-- The parts of a date as texts (RFC 5260, 4.2).
use Rattle.std.specs.Prelude.{ℕ, ◌+◌, ◌-◌, ◌/◌, ◌%◌, ◌==◌, Option, Some, None, cond, List, [], ◌∷◌, ◌++◌, suc, codes, decimal, get_or, ℤ, pos, negsuc, ◌+ℤ◌, unsigned_abs}
use Rattle.jiff_core.specs.Calendar.{days_from_civil, weekday_number}
use Rattle.mail_dates.specs.declared.date_time.DateTime.{DateTime}
use Rattle.mail_dates.specs.declared.part.DatePart.{DatePart}
use Rattle.mail_dates.specs.declared.part.DatePart.TheVariants as P
use Rattle.mail_dates.specs.Words.{is_named}

-- a part by its name, ignoring ASCII case
unfoldable pub part_named : List ℕ → Option DatePart
part_named name =
    cond (is_named name (codes "year")) (Some P.Year)
    (cond (is_named name (codes "month")) (Some P.Month)
    (cond (is_named name (codes "day")) (Some P.Day)
    (cond (is_named name (codes "date")) (Some P.Date)
    (cond (is_named name (codes "julian")) (Some P.Julian)
    (cond (is_named name (codes "hour")) (Some P.Hour)
    (cond (is_named name (codes "minute")) (Some P.Minute)
    (cond (is_named name (codes "second")) (Some P.Second)
    (cond (is_named name (codes "time")) (Some P.Time)
    (cond (is_named name (codes "iso8601")) (Some P.Iso8601)
    (cond (is_named name (codes "std11")) (Some P.Std11)
    (cond (is_named name (codes "zone")) (Some P.Zone)
    (cond (is_named name (codes "weekday")) (Some P.Weekday)
    None))))))))))))

-- a number below 100 in two digits
abbrev pub two : ℕ → List ℕ
two n = (48 + n / 10) ∷ ((48 + n % 10) ∷ [])

-- a number below 10,000 in four digits
abbrev pub four : ℕ → List ℕ
four n = two (n / 100) ++ two (n % 100)

-- the day by the clock of its zone: 0 for 1 January 1970
abbrev pub day_number : DateTime → ℤ
day_number date = days_from_civil (pos date.year) date.month date.day

-- 0 for Sunday
abbrev pub weekday : DateTime → ℕ
weekday date = (weekday_number (day_number date) + 1) % 7

-- a number in decimal digits, with a minus sign if it is below 0
abbrev pub signed_decimal : ℤ → List ℕ
signed_decimal (pos n) = decimal n
signed_decimal (negsuc n) = 45 ∷ decimal (suc n)

-- yyyy-mm-dd
abbrev pub date_text : DateTime → List ℕ
date_text date = four date.year ++ (45 ∷ (two date.month ++ (45 ∷ two date.day)))

-- hh:mm:ss
abbrev pub time_text : DateTime → List ℕ
time_text date = two date.hour ++ (58 ∷ (two date.minute ++ (58 ∷ two date.second)))

-- the sign of a zone: UTC has a plus
abbrev pub sign : ℤ → ℕ
sign (pos n) = 43
sign (negsuc n) = 45

-- +hhmm, or -hhmm west of UTC
abbrev pub zone_text : ℤ → List ℕ
zone_text zone = sign zone ∷ (two (unsigned_abs zone / 60) ++ two (unsigned_abs zone % 60))

-- Z for UTC, otherwise +hh:mm or -hh:mm
abbrev pub iso_zone : ℤ → List ℕ
iso_zone zone = cond (unsigned_abs zone == 0) (codes "Z") (sign zone ∷ (two (unsigned_abs zone / 60) ++ (58 ∷ two (unsigned_abs zone % 60))))

-- the names of the days, from Sunday
abbrev pub day_names : List (List ℕ)
day_names = codes "Sun" ∷ (codes "Mon" ∷ (codes "Tue" ∷ (codes "Wed" ∷ (codes "Thu" ∷ (codes "Fri" ∷ (codes "Sat" ∷ []))))))

-- the names of the months, from January
abbrev pub month_names : List (List ℕ)
month_names =
    codes "Jan" ∷ (codes "Feb" ∷ (codes "Mar" ∷ (codes "Apr" ∷ (codes "May" ∷ (codes "Jun" ∷ (codes "Jul" ∷ (codes "Aug"
    ∷ (codes "Sep" ∷ (codes "Oct" ∷ (codes "Nov" ∷ (codes "Dec" ∷ [])))))))))))

-- Mon, 05 Oct 2026
abbrev pub mail_day : DateTime → List ℕ
mail_day date =
    get_or day_names (weekday date) [] ++ (codes ", " ++ (two date.day ++ (32 ∷ (get_or month_names (date.month - 1) [] ++ (32 ∷ four date.year)))))

-- the text of each part
unfoldable pub part_text : DatePart → DateTime → List ℕ
part_text P.Year date = four date.year
part_text P.Month date = two date.month
part_text P.Day date = two date.day
part_text P.Date date = date_text date
part_text P.Julian date = signed_decimal (day_number date +ℤ pos 40587)
part_text P.Hour date = two date.hour
part_text P.Minute date = two date.minute
part_text P.Second date = two date.second
part_text P.Time date = time_text date
part_text P.Iso8601 date = date_text date ++ (84 ∷ (time_text date ++ iso_zone date.zone))
part_text P.Std11 date = mail_day date ++ (32 ∷ (time_text date ++ (32 ∷ zone_text date.zone)))
part_text P.Zone date = zone_text date.zone
part_text P.Weekday date = (48 + weekday date) ∷ []
