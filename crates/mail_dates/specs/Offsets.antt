-- Offsets of rules.
use Rattle.std.specs.Prelude.{◌≡◌, ℕ, ℤ, pos, neg_ℤ, min, int_rem}
use Rattle.std.specs.Option.{ForSome}
use Rattle.jiff_core.specs.Calendar.{IsBetween}
use Rattle.jiff_core.specs.Timestamp.{nanos_of_seconds}
use Rattle.jiff_tz.specs.PosixText.{TzText}

-- that many seconds are a whole number of minutes, and less than a day either way
abbrev pub IsWhole : ℤ → Type 0
IsWhole seconds = IsBetween (neg_ℤ (pos 86399)) (pos 86399) seconds × (int_rem seconds (pos 60) ≡ pos 0)

-- each offset that a rule says is a whole number of minutes, and less than a day either way
abbrev pub AreWhole : TzText → Type 0
AreWhole read = IsWhole read.std_seconds × ForSome read.dst (λ dst. IsWhole dst.seconds)

-- the nanosecond of a moment as rules take it: 22:00 on 30 December 9999 stands for each later one
abbrev pub nanos_at : ℕ → ℤ
nanos_at moment = nanos_of_seconds (pos (min moment 253402207200))
