-- Dates that the calendar and RFC 5322 give.
use Rattle.std.proofs.Common.{◌≡◌, ◌/◌, ◌%◌, ◌++◌, refl, arith, pos}
use Rattle.std.specs.Prelude.{codes, decimal}
use Rattle.std.proofs.lemmas.Fmt.{decimal_digit}
use Rattle.jiff_core.specs.Calendar.{days_from_civil, day_count, days_of_years, days_of_months}
use Rattle.sieve_vacation.specs.Dates.{day_text, clock_text}

-- number 19,675 is 14 November 2023, and not the 15th
day_of_the_example : (days_from_civil (pos 2023) 11 14 ≡ pos 19675) × (days_from_civil (pos 2023) 11 15 ≡ pos 19676)
unfolding days_from_civil day_count days_of_years days_of_months
day_of_the_example = (refl, refl)

-- 1700000000 is second 80,000 of that day
text_of_the_example : (day_text (1700000000 / 86400) 2023 11 14 ≡ codes "Tue, " ++ (decimal 14 ++ codes " Nov 2023")) × (clock_text (1700000000 % 86400) ≡ codes "22:13:20")
text_of_the_example = (refl, refl)

-- the first day, without a leading zero
first_text : day_text 0 1970 1 1 ≡ codes "Thu, 1 Jan 1970"
first_text = rw (decimal_digit 1 (omega arith)) refl

-- the last second of the year 9999
last_text : (day_text (253402300799 / 86400) 9999 12 31 ≡ codes "Fri, " ++ (decimal 31 ++ codes " Dec 9999")) × (clock_text (253402300799 % 86400) ≡ codes "23:59:59")
last_text = (refl, refl)
