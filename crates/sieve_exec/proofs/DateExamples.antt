-- The dates that tests look at, and near misses.
use Rattle.std.proofs.Common.{◌≡◌, ◌∙◌, ◌∷◌, ◌++◌, ℕ, ℤ, pos, List, [], Some, None, true, false, refl, sym, inr, arith, rules}
use Rattle.std.specs.Prelude.{codes}
use Rattle.std.proofs.lemmas.Int.{ints}
use Rattle.mail_dates.specs.declared.date_time.DateTime.{DateTime}
use Rattle.mail_dates.specs.DateTimes.{IsDateTime, local_minutes}
use Rattle.mail_dates.specs.Finding.{date_of, is_civil}
use Rattle.mail_dates.specs.Pieces.{goes_on}
use Rattle.mail_dates.specs.Words.{number_in, two_digits, day_of, year_of, is_named, month_of, weekday_of, mark_of}
use Rattle.mail_dates.specs.Zones.{offset_of, numeric_of, hours_west, named_of, zone_of}
use Rattle.mail_dates.specs.Reading.{next_state, after_gap, cut, piece, reads, after_name, day_from, second_from, time_from, parts_from}
use Rattle.sieve_syntax.specs.declared.extension.date.DateZone.TheVariants.{Given, Original}
use Rattle.sieve_exec.specs.declared.when.When.{When}
use Rattle.sieve_exec.specs.Mails.{MailSpec, mail_spec_of}
use Rattle.sieve_exec.specs.Extension.Date.{IsAfterLast, IsFieldDate, IsDateCount, IsDateShown, field_date}
use Rattle.sieve_exec.proofs.DateLemmas.{behind_again, field_date_is, field_date_again}

-- what stands behind the last semicolon, and not behind the first
behind : IsAfterLast (codes "a;b;c") (codes "c")
behind = record { before = codes "a;b"; cut = refl; last = refl }

not_behind : IsAfterLast (codes "a;b;c") (codes "b;c") → ⊥
not_behind is = let no : true ≡ false = is.last in absurd (cc no)

bare : (text : List ℕ) → IsAfterLast (codes "abc") text → ⊥
bare text is = let no : None ≡ Some text = behind_again (codes "abc") text is in absurd (cc no)

-- two hours east of UTC
abbrev start : When
start = record { moment = 0; zone = pos 120; within = (search (rules, ints), search (rules, ints)) }

abbrev mail : List ℕ → List ℕ → MailSpec
mail one two = mail_spec_of (one ++ 10 ∷ (two ++ 10 ∷ [])) (record { from = []; to = [] }) start

abbrev at : ℕ → ℕ → ℤ → DateTime
at hour minute zone = record { year = 2026; month = 10; day = 5; hour = hour; minute = minute; second = 0; zone = zone }

-- the first field's date
first_found : field_date (mail (codes "Date: 5 Oct 2026 10:20 +0200") (codes "date: 6 Oct 2026 10:20 +0200")) (codes "DATE") ≡ Some (at 10 20 (pos 120))
unfolding goes_on number_in two_digits day_of year_of is_named month_of weekday_of mark_of offset_of numeric_of hours_west named_of zone_of next_state after_gap cut piece reads after_name day_from second_from time_from parts_from date_of is_civil
first_found = refl

first : IsFieldDate (mail (codes "Date: 5 Oct 2026 10:20 +0200") (codes "date: 6 Oct 2026 10:20 +0200")) (codes "DATE") (at 10 20 (pos 120))
first = field_date_is _ (codes "DATE") (at 10 20 (pos 120)) first_found

-- where the first one has none, the second isn't looked at
second_unfound : field_date (mail (codes "Date: 5 Okt 2026 10:20 +0200") (codes "Date: 5 Oct 2026 10:20 +0200")) (codes "Date") ≡ None
unfolding goes_on number_in two_digits day_of year_of is_named month_of weekday_of mark_of offset_of numeric_of hours_west named_of zone_of next_state after_gap cut piece reads after_name day_from second_from time_from parts_from date_of is_civil
second_unfound = refl

not_second : (date : DateTime) → IsFieldDate (mail (codes "Date: 5 Okt 2026 10:20 +0200") (codes "Date: 5 Oct 2026 10:20 +0200")) (codes "Date") date → ⊥
not_second date is = let no : None ≡ Some date = sym second_unfound ∙ field_date_again _ (codes "Date") date is in absurd (cc no)

no_dates : IsDateCount (mail (codes "Date: 5 Okt 2026 10:20 +0200") (codes "Date: 5 Oct 2026 10:20 +0200")) (codes "Date") 0
no_dates = inr (refl, not_second)

-- of `Received` what stands behind the last semicolon
received_found : field_date (mail (codes "Received: by a; (b; c); 5 Oct 2026 10:20 GMT") (codes "a: b")) (codes "received") ≡ Some (at 10 20 (pos 0))
unfolding goes_on number_in two_digits day_of year_of is_named month_of weekday_of mark_of offset_of numeric_of hours_west named_of zone_of next_state after_gap cut piece reads after_name day_from second_from time_from parts_from date_of is_civil
received_found = refl

-- by the clock of UTC it is two hours earlier; the same hour there is another moment
is_date : (hour : ℕ) (zone : ℤ) → hour ≡ 8 → zone ≡ pos 0 → IsDateTime (at hour 20 zone)
is_date hour zone early utc = record { civil = search rules; hour = omega (arith, early); minute = omega arith; second = omega arith; zone = (omega (arith, ints, utc), omega (arith, ints, utc)) }

shown : (m : MailSpec) → IsDateShown m (Given (pos 0)) (at 10 20 (pos 120)) (at 8 20 (pos 0))
unfolding local_minutes
shown m = record { is_date = is_date 8 (pos 0) refl refl; zone_is = refl; minutes = omega (arith, ints); second = refl }

not_shown : (m : MailSpec) → IsDateShown m (Given (pos 0)) (at 10 20 (pos 120)) (at 10 20 (pos 0)) → ⊥
unfolding local_minutes
not_shown m is = omega (arith, ints, is.minutes)

-- by its own clock it is what it was
own : (m : MailSpec) → IsDateShown m Original (at 10 20 (pos 120)) (at 10 20 (pos 120))
own m = refl
