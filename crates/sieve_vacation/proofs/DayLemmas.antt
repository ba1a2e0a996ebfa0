-- What jiff prints of a day and a time of it, as RFC 5322 has it.
use Rattle.std.proofs.Common.{◌≡◌, ℕ, zero, suc, ◌+◌, ◌-◌, ◌/◌, ◌%◌, ◌<◌, ◌≤◌, arith, refl, ap, sym, ◌∙◌, ℤ, pos, negsuc, ◌≤ℤ◌, unsigned_abs, subst, false, List, [], ◌∷◌, ◌++◌, append_assoc, get_or, inl, inr, Some}
use Rattle.std.specs.Prelude.{codes, decimal}
use Rattle.std.proofs.lemmas.Fmt.{decimal_digit, decimal_step}
use Rattle.std.proofs.lemmas.Bool.Decides.{leb_tells}
use Rattle.std.proofs.lemmas.Int.{by_lt_z}
use Rattle.jiff_core.specs.declared.civil.date.Date.{Date}
use Rattle.jiff_core.specs.declared.civil.datetime.DateTime.{DateTime}
use Rattle.jiff_core.specs.declared.offset.Offset.{Offset}
use Rattle.jiff_core.specs.Calendar.{days_from_civil, weekday_number, IsCivilDate}
use Rattle.jiff_core.specs.Date.{epoch_day, weekday_of}
use Rattle.jiff_core.specs.Time.{time_seconds}
use Rattle.jiff_core.proofs.SignedLemmas.{signed_arith}
use Rattle.jiff_core.proofs.CalendarLemmas.{days_from_civil-day_count, day_count-epoch, day_count-lt_year, weekday_number-parts, days_in_month_bounds}
use Rattle.jiff_core.proofs.DateLemmas.{civil}
use Rattle.jiff_fmt.specs.Rfc2822 as mail
use Rattle.jiff_fmt.specs.Text.{pad2, sign_byte, rounded_minutes}
use Rattle.sieve_vacation.specs.Dates.{IsDay, IsUtcDateText, day_names, month_names}

-- a number from 0 on is its own size
nonnegative : (z : ℤ) → pos 0 ≤ℤ z → pos (unsigned_abs z) ≡ z
nonnegative (pos n) since = refl
nonnegative (negsuc n) since = absurd (omega (arith, signed_arith))

-- a day from number 0 on has a year from 0 on
pub year_since : (number : ℕ) (d : Date) → epoch_day d ≡ pos number → pos 0 ≤ℤ d.year
year_since number d is =
    by_lt_z d.year (pos 0)
    (λ before. absurd (omega (arith, signed_arith, is, days_from_civil-day_count d.year d.month d.day, day_count-epoch, day_count-lt_year d.year d.month d.day (pos 1970) 1 1 (civil d) (omega arith) (omega (arith, signed_arith)))))
    (λ since. since)

-- the day that a date with this number is
day_is : (number : ℕ) (d : Date) → epoch_day d ≡ pos number → IsDay number (unsigned_abs d.year) d.month d.day
day_is number d is =
    let year = nonnegative d.year (year_since number d is) in
    record {
      civil = subst (λ (y : ℤ). IsCivilDate y d.month d.day) (sym year) (civil d);
      counted = ap (λ y. days_from_civil y d.month d.day) year ∙ is;
    }

-- the name of the day k days after a Sunday
day_named : (w k : ℕ) → w < 7 → k ≡ (w + 1) % 7 → mail.weekday_text w ≡ get_or day_names k []
day_named zero k in_week is = rw is refl
day_named (suc zero) k in_week is = rw is refl
day_named (suc (suc zero)) k in_week is = rw is refl
day_named (suc (suc (suc zero))) k in_week is = rw is refl
day_named (suc (suc (suc (suc zero)))) k in_week is = rw is refl
day_named (suc (suc (suc (suc (suc zero))))) k in_week is = rw is refl
day_named (suc (suc (suc (suc (suc (suc zero)))))) k in_week is = rw is refl
day_named (suc (suc (suc (suc (suc (suc (suc w))))))) k in_week is = absurd (omega arith)

-- day 0 was a Thursday
weekday_named : (number : ℕ) (d : Date) → epoch_day d ≡ pos number → mail.weekday_text (weekday_of d) ≡ get_or day_names ((number + 4) % 7) []
weekday_named number d is =
    let here : weekday_of d ≡ weekday_number (pos number) = ap weekday_number is in
    let parts = weekday_number-parts (pos number) in
    day_named (weekday_of d) ((number + 4) % 7) (omega (arith, signed_arith, here, parts)) (omega (arith, signed_arith, here, parts))

-- the name of a month
month_named : (m : ℕ) → 1 ≤ m → m ≤ 12 → mail.month_text m ≡ get_or month_names (m - 1) []
month_named zero from to = absurd (omega arith)
month_named (suc zero) from to = refl
month_named (suc (suc zero)) from to = refl
month_named (suc (suc (suc zero))) from to = refl
month_named (suc (suc (suc (suc zero)))) from to = refl
month_named (suc (suc (suc (suc (suc zero))))) from to = refl
month_named (suc (suc (suc (suc (suc (suc zero)))))) from to = refl
month_named (suc (suc (suc (suc (suc (suc (suc zero))))))) from to = refl
month_named (suc (suc (suc (suc (suc (suc (suc (suc zero)))))))) from to = refl
month_named (suc (suc (suc (suc (suc (suc (suc (suc (suc zero))))))))) from to = refl
month_named (suc (suc (suc (suc (suc (suc (suc (suc (suc (suc zero)))))))))) from to = refl
month_named (suc (suc (suc (suc (suc (suc (suc (suc (suc (suc (suc zero))))))))))) from to = refl
month_named (suc (suc (suc (suc (suc (suc (suc (suc (suc (suc (suc (suc zero)))))))))))) from to = refl
month_named (suc (suc (suc (suc (suc (suc (suc (suc (suc (suc (suc (suc (suc m))))))))))))) from to = absurd (omega arith)

-- a day of a month has one digit or two
day_spelled : (n : ℕ) → n < 100 → mail.day_text false n ≡ decimal n
day_spelled n small = elim (leb_tells 10 n) [
  | inl two ↦ rw (two.0, decimal_step n two.1 (omega arith), decimal_digit (n / 10) (omega arith)) refl
  | inr one ↦ rw one.0 (sym (decimal_digit n one.1))
]

-- the offset of UTC
zone_spelled : (o : Offset) (before : List ℕ) → o.seconds ≡ pos 0
    → before ++ 32 ∷ [] ++ sign_byte o.seconds ∷ [] ++ pad2 (rounded_minutes o).0 ++ pad2 (rounded_minutes o).1 ≡ before ++ codes " +0000"
zone_spelled o before utc = rw utc (simp append_assoc refl)

-- what jiff prints of a clock in UTC
pub is_date_text : (moment : ℕ) (clock : DateTime) (o : Offset) (text : List ℕ) → epoch_day clock.date ≡ pos (moment / 86400) → time_seconds clock.time ≡ moment % 86400
    → o.seconds ≡ pos 0 → text ≡ mail.mail_text clock (Some o) → IsUtcDateText moment text
is_date_text moment clock o text day second utc printed =
    let date = clock.date in
    let time = clock.time in
    let in_month : date.day < 100 = omega (arith, date.day_in, days_in_month_bounds date.year date.month) in
    let hour : time.hour ≡ moment % 86400 / 3600 = omega (arith, second, time.minute_in, time.second_in) in
    let minute : time.minute ≡ moment % 86400 / 60 % 60 = omega (arith, second, time.minute_in, time.second_in) in
    let last : time.second ≡ moment % 86400 % 60 = omega (arith, second, time.minute_in, time.second_in) in
    record {
      year = unsigned_abs date.year;
      month = date.month;
      day = date.day;
      is_day = day_is (moment / 86400) date day;
      spelled = printed ∙ zone_spelled o (mail.date_and_time_text false clock) utc
          ∙ rw (weekday_named (moment / 86400) date day, day_spelled date.day in_month, month_named date.month date.month_in.0 date.month_in.1, hour, minute, last) (simp append_assoc refl);
    }
