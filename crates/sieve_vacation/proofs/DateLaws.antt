-- A moment has one text.
use Rattle.std.proofs.Common.{◌≡◌, ℕ, ◌/◌, List, sym, ◌∙◌, pos, arith}
use Rattle.jiff_core.specs.declared.civil.date.Date.{Date}
use Rattle.jiff_core.proofs.SignedLemmas.{signed_arith}
use Rattle.jiff_core.proofs.DateLemmas.{epoch_day_injective}
use Rattle.sieve_vacation.specs.Dates.{IsDay, IsUtcDateText}

-- a day as jiff has it
date_of : (number year month day : ℕ) → IsDay number year month day → Date
date_of number year month day is = record { year = pos year; month = month; day = day; year_in = is.civil.0; month_in = is.civil.1; day_in = is.civil.2 }

-- a number has one day
one_day : (number y m d year month day : ℕ) → IsDay number y m d → IsDay number year month day → (y ≡ year) × (m ≡ month) × (d ≡ day)
unfolding date_of
one_day number y m d year month day one two =
    let same = epoch_day_injective (date_of number y m d one) (date_of number year month day two) (one.counted ∙ sym two.counted) in
    (omega (arith, signed_arith, same.0), same.1, same.2)

-- a moment has one text
pub one_date : (moment : ℕ) (one two : List ℕ) → IsUtcDateText moment one → IsUtcDateText moment two → one ≡ two
one_date moment one two is other =
    let same = one_day (moment / 86400) is.year is.month is.day other.year other.month other.day is.is_day other.is_day in
    is.spelled ∙ rw (same.0, same.1, same.2) (sym other.spelled)
