-- A moment has one date in a zone.
use Rattle.std.proofs.Common.{◌≡◌, ℕ, ◌+◌, ◌*◌, ◌<◌, arith, ap, sym, ◌∙◌, ℤ, pos, ◌+ℤ◌, ◌-ℤ◌, ◌*ℤ◌, unsigned_abs}
use Rattle.jiff_core.specs.Calendar.{days_from_civil}
use Rattle.jiff_core.specs.Date.{epoch_day}
use Rattle.jiff_core.proofs.SignedLemmas.{signed_arith}
use Rattle.jiff_core.proofs.DateLemmas.{epoch_day_range, epoch_day_injective}
use Rattle.mail_dates.specs.declared.date_time.DateTime.{DateTime}
use Rattle.mail_dates.specs.DateTimes.{IsDateTime, IsMoment, IsSameMoment, local_minutes, utc_minutes}
use Rattle.mail_dates.proofs.ClockLemmas.{date_of, nonnegative, scale, clock_parts}

-- the minutes by a date's clock
clock_of : (date : DateTime) → IsDateTime date → (minutes : ℕ) × (local_minutes date +ℤ pos 6_295_085_280 ≡ pos minutes)
unfolding date_of local_minutes
clock_of date is =
    let range = epoch_day_range (date_of date is) in
    let e = days_from_civil (pos date.year) date.month date.day in
    let n = unsigned_abs (e +ℤ pos 4_371_587) in
    let from : pos n ≡ e +ℤ pos 4_371_587 = nonnegative (e +ℤ pos 4_371_587) (omega (arith, signed_arith, range)) in
    (n * 1440 + (date.hour * 60 + date.minute), scale e n (date.hour * 60 + date.minute) (sym from))

-- the days of two dates that the same clock shows at once
same_day : (a b : DateTime) (ia : IsDateTime a) (ib : IsDateTime b) → local_minutes a ≡ local_minutes b → (a.year ≡ b.year) × (a.month ≡ b.month) × (a.day ≡ b.day)
    × (days_from_civil (pos a.year) a.month a.day ≡ days_from_civil (pos b.year) b.month b.day)
unfolding date_of
same_day a b ia ib minutes =
    let clock = clock_of a ia in
    let one = clock_parts a ia clock.0 clock.1 in
    let two = clock_parts b ib clock.0 (ap (λ (z : ℤ). z +ℤ pos 6_295_085_280) (sym minutes) ∙ clock.1) in
    let days : days_from_civil (pos a.year) a.month a.day ≡ days_from_civil (pos b.year) b.month b.day = omega (arith, signed_arith, one.0, two.0) in
    let same = epoch_day_injective (date_of a ia) (date_of b ib) days in
    (omega (arith, signed_arith, same.0), same.1, same.2, days)

same_time : (d : ℤ) (h m k n : ℕ) → (d *ℤ pos 1440) +ℤ pos (h * 60 + m) ≡ (d *ℤ pos 1440) +ℤ pos (k * 60 + n) → m < 60 → n < 60 → (h ≡ k) × (m ≡ n)
same_time d h m k n e low less =
    let all : h * 60 + m ≡ k * 60 + n = omega (arith, signed_arith, e) in
    (omega (arith, all, low, less), omega (arith, all, low, less))

pub one_clock : (a b : DateTime) → IsDateTime a → IsDateTime b → local_minutes a ≡ local_minutes b → a.zone ≡ b.zone → a.second ≡ b.second → a ≡ b
unfolding local_minutes
one_clock a b ia ib minutes zone second =
    let same = same_day a b ia ib minutes in
    let time = same_time (days_from_civil (pos b.year) b.month b.day) a.hour a.minute b.hour b.minute
    (ap (λ (d : ℤ). (d *ℤ pos 1440) +ℤ pos (a.hour * 60 + a.minute)) (sym same.3) ∙ minutes) ia.minute ib.minute in
    λ i. record { year = same.0 i; month = same.1 i; day = same.2 i; hour = time.0 i; minute = time.1 i; second = second i; zone = zone i }

-- the same moment in a zone
pub one_same : (date : DateTime) (zone : ℤ) (one two : DateTime) → IsSameMoment date zone one → IsSameMoment date zone two → one ≡ two
one_same date zone one two a b =
    one_clock one two a.is_date b.is_date (omega (arith, signed_arith, a.minutes, b.minutes, a.zone_is, b.zone_is)) (a.zone_is ∙ sym b.zone_is) (a.second ∙ sym b.second)

-- a moment in a zone
pub one_moment : (seconds : ℕ) (zone : ℤ) (one two : DateTime) → IsMoment seconds zone one → IsMoment seconds zone two → one ≡ two
one_moment seconds zone one two a b =
    one_clock one two a.is_date b.is_date (omega (arith, signed_arith, a.minutes, b.minutes, a.zone_is, b.zone_is)) (a.zone_is ∙ sym b.zone_is) (a.second_is ∙ sym b.second_is)
