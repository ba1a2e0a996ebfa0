-- Minutes by a clock, and the days and times that they are.
use Rattle.std.proofs.Common.{◌≡◌, ℕ, ◌+◌, ◌*◌, ◌/◌, ◌%◌, ◌<◌, ◌≤◌, arith, rules, refl, ap, sym, ◌∙◌, subst, ℤ, pos, negsuc, neg_ℤ, ◌+ℤ◌, ◌-ℤ◌, ◌*ℤ◌, ◌≤ℤ◌, ◌<ℤ◌, unsigned_abs, Option, None, Some}
use Rattle.std.specs.Option.{MatchOption}
use Rattle.jiff_core.specs.declared.civil.date.Date.{Date}
use Rattle.jiff_core.specs.Calendar.{days_from_civil, day_count, days_of_years, days_of_months, IsCivilDate}
use Rattle.jiff_core.specs.Date.{epoch_day}
use Rattle.jiff_core.proofs.SignedLemmas.{signed_arith}
use Rattle.jiff_core.proofs.CalendarLemmas.{days_from_civil-day_count, day_count-epoch, day_count-lt_year}
use Rattle.jiff_core.proofs.DateLemmas.{civil, epoch_day_range, epoch_day_injective}
use Rattle.mail_dates.specs.declared.date_time.DateTime.{DateTime}
use Rattle.mail_dates.specs.DateTimes.{IsDateTime, IsZone, IsClock, IsSameMoment, local_minutes}

-- a date's day as jiff has it
unfoldable pub date_of : (date : DateTime) → IsDateTime date → Date
date_of date is = record { year = pos date.year; month = date.month; day = date.day; year_in = is.civil.0; month_in = is.civil.1; day_in = is.civil.2 }

pub nonnegative : (z : ℤ) → pos 0 ≤ℤ z → pos (unsigned_abs z) ≡ z
nonnegative (pos n) since = refl
nonnegative (negsuc n) since = absurd (omega (arith, signed_arith))

pub scale : (e : ℤ) (n hm : ℕ) → e +ℤ pos 4_371_587 ≡ pos n → ((e *ℤ pos 1440) +ℤ pos hm) +ℤ pos 6_295_085_280 ≡ pos (n * 1440 + hm)
scale e n hm is = omega (arith, signed_arith)

-- the day and the minute of it
pub clock_parts : (date : DateTime) (is : IsDateTime date) (minutes : ℕ) → local_minutes date +ℤ pos 6_295_085_280 ≡ pos minutes
    → (days_from_civil (pos date.year) date.month date.day +ℤ pos 4_371_587 ≡ pos (minutes / 1440)) × (minutes / 1440 ≤ 7_304_483)
unfolding date_of local_minutes
clock_parts date is minutes clock =
    let range = epoch_day_range (date_of date is) in
    let e = days_from_civil (pos date.year) date.month date.day in
    let n = unsigned_abs (e +ℤ pos 4_371_587) in
    let from : pos n ≡ e +ℤ pos 4_371_587 = nonnegative (e +ℤ pos 4_371_587) (omega (arith, signed_arith, range)) in
    let hm = date.hour * 60 + date.minute in
    let all = sym clock ∙ scale e n hm (sym from) in
    let low : hm < 1440 = omega (arith, is.hour, is.minute) in
    let whole : minutes ≡ n * 1440 + hm = omega (arith, signed_arith, all) in
    let days : n ≡ minutes / 1440 = omega (arith, whole, low) in
    let most : n ≤ 7_304_483 = omega (arith, signed_arith, from, range) in
    (sym from ∙ ap pos days, omega (arith, days, most))

first_of_next : days_from_civil (neg_ℤ (pos 9998)) 1 1 ≡ neg_ℤ (pos 4_371_222)
unfolding days_from_civil day_count days_of_years days_of_months
first_of_next = refl

-- a day from year 0 on isn't the first year's
pub late_enough : (date : DateTime) (is : IsDateTime date) → neg_ℤ (pos 4_371_222) ≤ℤ days_from_civil (pos date.year) date.month date.day
late_enough date is =
    let y = neg_ℤ (pos 9998) in
    let first : IsCivilDate y 1 1 = search rules in
    omega (
      arith,
      signed_arith,
      first_of_next,
      days_from_civil-day_count y 1 1,
      days_from_civil-day_count (pos date.year) date.month date.day,
      day_count-epoch,
      day_count-lt_year y 1 1 (pos date.year) date.month date.day first (omega (arith, is.civil.2)) (omega (arith, signed_arith)),
    )

-- no date is after the last day
pub clock_past : (minutes second : ℕ) (zone : ℤ) (date : DateTime) → 7_304_483 < minutes / 1440 → IsClock minutes second zone date → ⊥
clock_past minutes second zone date far is = let parts = clock_parts date is.is_date minutes is.clock in omega (arith, parts.1)

-- and none is where the year is below 0
pub clock_before : (minutes second : ℕ) (zone : ℤ) (date : DateTime) (d : Date) → epoch_day d +ℤ pos 4_371_587 ≡ pos (minutes / 1440) → d.year <ℤ pos 0 → IsClock minutes second zone date → ⊥
unfolding date_of
clock_before minutes second zone date d there before is =
    let parts = clock_parts date is.is_date minutes is.clock in
    let same : epoch_day (date_of date is.is_date) ≡ epoch_day d = omega (arith, signed_arith, there, parts.0) in
    let year = (epoch_day_injective (date_of date is.is_date) d same).0 in
    omega (arith, signed_arith, year)

-- a day and a minute of it
abbrev pub made : (minutes second year : ℕ) (d : Date) (zone : ℤ) → DateTime
made minutes second year d zone =
    record { year = year; month = d.month; day = d.day; hour = minutes % 1440 / 60; minute = minutes % 1440 % 60; second = second; zone = zone }

pub clock_made : (minutes second year : ℕ) (d : Date) (zone other : ℤ) → epoch_day d +ℤ pos 4_371_587 ≡ pos (minutes / 1440) → pos year ≡ d.year → other ≡ zone → second ≤ 60 → IsZone zone
    → IsClock minutes second zone (made minutes second year d other)
unfolding local_minutes
clock_made minutes second year d zone other there years same within zoned =
    let days : days_from_civil (pos year) d.month d.day ≡ epoch_day d = ap (λ y. days_from_civil y d.month d.day) years in
    record {
      is_date = record {
        civil = subst (λ (y : ℤ). IsCivilDate y d.month d.day) (sym years) (civil d);
        hour = omega arith;
        minute = omega arith;
        second = within;
        zone = subst (λ (z : ℤ). IsZone z) (sym same) zoned;
      };
      clock = rw days (scale (epoch_day d) (minutes / 1440) (minutes % 1440 / 60 * 60 + minutes % 1440 % 60) there ∙ ap pos (omega arith));
      second_is = refl;
      zone_is = same;
    }

-- a date's minutes, from those of its day
pub clock_is : (date : DateTime) (d : Date) (days : ℕ) → pos date.year ≡ d.year → pos date.month ≡ pos d.month → pos date.day ≡ pos d.day → epoch_day d +ℤ pos 4_371_587 ≡ pos days
    → local_minutes date +ℤ pos 6_295_085_280 ≡ pos (days * 1440 + (date.hour * 60 + date.minute))
unfolding local_minutes
clock_is date d days year month day there =
    let m : date.month ≡ d.month = omega (arith, signed_arith, month) in
    let n : date.day ≡ d.day = omega (arith, signed_arith, day) in
    let same : days_from_civil (pos date.year) date.month date.day ≡ epoch_day d = rw (year, m, n) refl in
    rw same (scale (epoch_day d) days (date.hour * 60 + date.minute) there)

pub clock_early : (date : DateTime) (is : IsDateTime date) (d : Date) (days : ℕ) → pos date.year ≡ d.year → pos date.month ≡ pos d.month → pos date.day ≡ pos d.day → epoch_day d +ℤ pos 4_371_587 ≡ pos days → 365 ≤ days
clock_early date is d days year month day there =
    let m : date.month ≡ d.month = omega (arith, signed_arith, month) in
    let n : date.day ≡ d.day = omega (arith, signed_arith, day) in
    let same : days_from_civil (pos date.year) date.month date.day ≡ epoch_day d = rw (year, m, n) refl in
    omega (arith, signed_arith, late_enough date is, same, there)

-- the clock of another zone tells the same moment
same_is : (date : DateTime) (clock minutes : ℕ) (zone : ℤ) (other : DateTime) → local_minutes date +ℤ pos 6_295_085_280 ≡ pos clock → pos minutes ≡ (pos clock -ℤ date.zone) +ℤ zone
    → IsClock minutes date.second zone other → IsSameMoment date zone other
same_is date clock minutes zone other here moved is = record {
  is_date = is.is_date;
  zone_is = is.zone_is;
  minutes = omega (arith, signed_arith, here, moved, is.clock, is.zone_is);
  second = is.second_is;
}

same_from : (date : DateTime) (clock minutes : ℕ) (zone : ℤ) (other : DateTime) → local_minutes date +ℤ pos 6_295_085_280 ≡ pos clock → pos minutes ≡ (pos clock -ℤ date.zone) +ℤ zone
    → IsSameMoment date zone other → IsClock minutes date.second zone other
same_from date clock minutes zone other here moved is = record {
  is_date = is.is_date;
  clock = omega (arith, signed_arith, here, moved, is.minutes, is.zone_is);
  second_is = is.second;
  zone_is = is.zone_is;
}

pub moment_in : (date : DateTime) (clock minutes : ℕ) (zone : ℤ) (found : Option DateTime) → local_minutes date +ℤ pos 6_295_085_280 ≡ pos clock → pos minutes ≡ (pos clock -ℤ date.zone) +ℤ zone
    → MatchOption found ((other : DateTime) → IsClock minutes date.second zone other → ⊥) (λ other. IsClock minutes date.second zone other)
    → MatchOption found ((other : DateTime) → IsSameMoment date zone other → ⊥) (λ other. IsSameMoment date zone other)
moment_in date clock minutes zone None here moved never = λ other is. never other (same_from date clock minutes zone other here moved is)
moment_in date clock minutes zone (Some other) here moved is = same_is date clock minutes zone other here moved is
