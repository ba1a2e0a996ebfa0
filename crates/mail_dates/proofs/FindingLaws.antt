-- The functions find what the relations say.
use Rattle.std.proofs.Common.{◌≡◌, ◌≤◌, ◌<◌, ◌↔◌, ℕ, zero, suc, ◌==◌, ◌&&◌, ◌||◌, ◌/◌, ◌%◌, nat_lt, length, Bool, true, false, cond, Option, Some, None, List, [], ◌∷◌, refl, sym, ap, ◌∙◌, subst, arith, ℤ, pos, neg_ℤ, ◌≤ℤ◌, unsigned_abs}
use Rattle.std.specs.Bool.{Decides}
use Rattle.std.specs.Ordering.{int_eq}
use Rattle.std.specs.Option.{option_and_then}
use Rattle.std.proofs.lemmas.Int.{ints}
use Rattle.std.proofs.lemmas.Bool.Decides.{Decides-like, Decides-and, Decides-ltb, Decides-eqb, Decides-int_eq, Decides-below_or}
use Rattle.jiff_core.specs.Calendar.{IsCivilDate, days_in_month}
use Rattle.jiff_core.proofs.SignedLemmas.{signed_arith}
use Rattle.jiff_core.proofs.CalendarLemmas.{days_in_month_bounds}
use Rattle.octets.proofs.Lists.{some_is}
use Rattle.mail_dates.specs.declared.date_time.DateTime.{DateTime}
use Rattle.mail_dates.specs.DateTimes.{IsDateTime, IsZone, IsMoment, IsSameMoment, utc_minutes}
use Rattle.mail_dates.specs.DateTexts.{IsDateText}
use Rattle.mail_dates.specs.Reading.{piece, parts_from}
use Rattle.mail_dates.specs.Finding.{is_civil, has_no_piece, date_of, some_below, some_date, same_moment_passes, moment_passes}
use Rattle.mail_dates.proofs.PieceLaws.{over_exact}
use Rattle.mail_dates.proofs.ReadingLaws.{parts_is, text_of, only_text, no_text}
use Rattle.mail_dates.proofs.WordLemmas.{then_some}

-- ---- dates of the calendar

civil_decides : (year month day : ℕ) → Decides (is_civil year month day) (IsCivilDate (pos year) month day)
unfolding is_civil
civil_decides year month day =
    Decides-like _
    (λ (in_year, (in_month, in_day)). ((omega (arith, signed_arith), omega (arith, signed_arith, in_year)), (omega (arith, in_month.0), omega (arith, in_month.1)), (omega (arith, in_day.0), omega (arith, in_day.1))))
    (λ civil. (omega (arith, signed_arith, civil.0), ((omega (arith, civil.1), omega (arith, civil.1)), (omega (arith, civil.2), omega (arith, civil.2)))))
    (Decides-and _ _ (Decides-ltb year 10000) (Decides-and _ _ (Decides-and _ _ (Decides-ltb 0 month) (Decides-ltb month 13)) (Decides-and _ _ (Decides-ltb 0 day) (Decides-ltb day (suc (days_in_month (pos year) month))))))

over_decides : (text : List ℕ) → Decides (has_no_piece (piece text)) (piece text ≡ Some ([], []))
over_decides text = split (piece text) refl
  where
    split : (found : Option (List ℕ × List ℕ)) → piece text ≡ found → Decides (has_no_piece (piece text)) (piece text ≡ Some ([], []))
    split None none = subst (λ (o : Option (List ℕ × List ℕ)). Decides (has_no_piece o) (o ≡ Some ([], []))) (sym none) ((λ h. absurd (cc h)), (λ same. absurd (cc same)))
    split (Some first) some = subst (λ (b : Bool). Decides b (piece text ≡ Some ([], []))) (sym (ap has_no_piece some)) (over_exact text first.0 first.1 (length first.0 == 0) some refl)

-- what is found is there, and what is there is found
picked : (test : Bool) (date found : DateTime) → cond test (Some date) None ≡ Some found → (test ≡ true) × (date ≡ found)
picked true date found e = (refl, some_is date found e)
picked false date found e = absurd (cc e)

pub date_of_is : (text : List ℕ) (date : DateTime) → date_of text ≡ Some date → IsDateText text date
unfolding date_of
date_of_is text date found =
    let parts = then_some _ (parts_from text) date found in
    let r = parts.0 in
    let chosen = picked (has_no_piece (piece r.1) && is_civil r.0.year r.0.month r.0.day) r.0 date parts.1.1 in
    let both = (Decides-and _ _ (over_decides r.1) (civil_decides r.0.year r.0.month r.0.day)).0 chosen.0 in
    subst (λ (d : DateTime). IsDateText text d) chosen.1 (text_of text r.0 r.1 (parts_is text r.0 r.1 parts.1.0) both.0 both.1)

pub date_of_again : (text : List ℕ) (date : DateTime) → IsDateText text date → date_of text ≡ Some date
unfolding date_of
date_of_again text date is = split (parts_from text) refl
  where
    split : (found : Option (DateTime × List ℕ)) → parts_from text ≡ found → option_and_then (λ (r : DateTime × List ℕ). cond (has_no_piece (piece r.1) && is_civil r.0.year r.0.month r.0.day) (Some r.0) None) (parts_from text) ≡ Some date
    split None none = absurd (no_text text date none is)
    split (Some r) some =
        let only = only_text text r.0 r.1 date some is in
        let passes = (Decides-and _ _ (over_decides r.1) (civil_decides r.0.year r.0.month r.0.day)).1 (only.1.0, only.1.1) in
        ap (option_and_then (λ (r : DateTime × List ℕ). cond (has_no_piece (piece r.1) && is_civil r.0.year r.0.month r.0.day) (Some r.0) None)) some
        ∙ (ap (λ (b : Bool). cond b (Some r.0) None) passes ∙ ap Some only.0)

-- ---- some date passes

below_decides : (passes : ℕ → Bool) (P : ℕ → Type 0) (each : (k : ℕ) → Decides (passes k) (P k)) (n : ℕ) → Decides (some_below n passes) ((k : ℕ) × (k < n) × P k)
unfolding some_below
below_decides passes P each n = Decides-below_or passes P (λ k. some_below k passes) each refl (λ k. refl) n

zone_decides : (zone : ℤ) → Decides (nat_lt (unsigned_abs zone) 1440) (IsZone zone)
zone_decides zone = Decides-like _ (λ small. (omega (arith, signed_arith, ints, small), omega (arith, signed_arith, ints, small))) (λ is. omega (arith, signed_arith, ints, is)) (Decides-ltb (unsigned_abs zone) 1440)

module _ (zone : ℤ) (passes : DateTime → Bool) (P : DateTime → Type 0) (each : (date : DateTime) → Decides (passes date) (P date)) where
  abbrev made : ℕ → ℕ → ℕ → ℕ → ℕ → ℕ → ℤ → DateTime
  made year month day hour minute second z = record { year = year; month = month; day = day; hour = hour; minute = minute; second = second; zone = z }

  -- a number below a limit with this
  abbrev Some_below : ℕ → (ℕ → Type 0) → Type 0
  Some_below n Q = (k : ℕ) × (k < n) × Q k

  abbrev SomeTime : ℕ → ℕ → ℕ → Type 0
  SomeTime year month day = Some_below 24 (λ hour. Some_below 60 (λ minute. Some_below 61 (λ second. P (made year month day hour minute second zone))))

  abbrev SomeDay : Type 0
  SomeDay = Some_below 10000 (λ year. Some_below 13 (λ month. Some_below 32 (λ day. IsCivilDate (pos year) month day × SomeTime year month day)))

  abbrev SomeDate : Type 0
  SomeDate = (date : DateTime) × IsDateTime date × (date.zone ≡ zone) × P date

  found : IsZone zone × SomeDay → SomeDate
  found (is_zone, (year, in_year, (month, in_month, (day, in_day, (civil, (hour, in_hour, (minute, in_minute, (second, in_second, holds)))))))) =
      (made year month day hour minute second zone, record { civil = civil; hour = in_hour; minute = in_minute; second = omega (arith, in_second); zone = is_zone }, refl, holds)

  sought : SomeDate → IsZone zone × SomeDay
  sought (date, is, same, holds) =
      let most = (days_in_month_bounds (pos date.year) date.month).0 in
      let year : date.year < 10000 = omega (arith, signed_arith, is.civil.0) in
      let month : date.month < 13 = omega (arith, is.civil.1) in
      let day : date.day < 32 = omega (arith, is.civil.2, most) in
      let second : date.second < 61 = omega (arith, is.second) in
      let here : P (made date.year date.month date.day date.hour date.minute date.second zone) =
      subst (λ (z : ℤ). P (made date.year date.month date.day date.hour date.minute date.second z)) same holds in
      (subst (λ (z : ℤ). IsZone z) same is.zone, (date.year, year, (date.month, month, (date.day, day, (is.civil, (date.hour, is.hour, (date.minute, is.minute, (date.second, second, here))))))))

  time_decides : (year month day : ℕ) → Decides (some_below 24 (λ hour. some_below 60 (λ minute. some_below 61 (λ second. passes (made year month day hour minute second zone))))) (SomeTime year month day)
  time_decides year month day =
      below_decides _ _ (λ hour. below_decides _ _ (λ minute. below_decides _ _ (λ second. each (made year month day hour minute second zone)) 61) 60) 24

  pub some_date_decides : Decides (some_date zone passes) SomeDate
  unfolding some_date
  some_date_decides =
      Decides-like _ found sought
      (Decides-and _ _ (zone_decides zone)
      (below_decides _ _ (λ year. below_decides _ _ (λ month. below_decides _ _ (λ day. Decides-and _ _ (civil_decides year month day) (time_decides year month day)) 32) 13) 10000))

-- a date of these minutes and this second passes
module _ (minutes : ℤ) (second : ℕ) (passes : DateTime → Bool) (P : DateTime → Type 0) (each : (date : DateTime) → Decides (passes date) (P date)) where
  abbrev Then : DateTime → Type 0
  Then date = ((utc_minutes date ≡ minutes) × (date.second ≡ second)) × P date

  then_decides : (date : DateTime) → Decides ((int_eq (utc_minutes date) minutes && (date.second == second)) && passes date) (Then date)
  then_decides date = Decides-and _ _ (Decides-and _ _ (Decides-int_eq (utc_minutes date) minutes) (Decides-eqb date.second second)) (each date)

module _ (passes : DateTime → Bool) (P : DateTime → Type 0) (each : (date : DateTime) → Decides (passes date) (P date)) where
  pub same_moment_decides : (date : DateTime) (zone : ℤ) → Decides (same_moment_passes date zone passes) ((other : DateTime) × IsSameMoment date zone other × P other)
  same_moment_decides date zone =
      Decides-like _
      (λ (other, is, same, (then, holds)). (other, record { is_date = is; zone_is = same; minutes = then.0; second = then.1 }, holds))
      (λ (other, is, holds). (other, is.is_date, is.zone_is, ((is.minutes, is.second), holds)))
      (some_date_decides zone _ _ (then_decides (utc_minutes date) date.second passes P each))

  pub moment_decides : (seconds : ℕ) (zone : ℤ) → Decides (moment_passes (seconds / 60) (seconds % 60) zone passes) ((date : DateTime) × IsMoment seconds zone date × P date)
  moment_decides seconds zone =
      Decides-like _
      (λ (date, is, same, (then, holds)). (date, record { is_date = is; zone_is = same; minutes = then.0; second_is = then.1 }, holds))
      (λ (date, is, holds). (date, is.is_date, is.zone_is, ((is.minutes, is.second_is), holds)))
      (some_date_decides zone _ _ (then_decides (pos (seconds / 60)) (seconds % 60) passes P each))
