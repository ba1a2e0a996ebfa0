-- The definitions as functions: they say what IsPiece, Reads and IsDateText say, which the contract of `read_date` proves.
use Rattle.std.specs.Prelude.{ℕ, ◌+◌, ◌-◌, ◌==◌, ◌&&◌, not, Bool, true, false, cond, Option, Some, None, option_map, List, [], ◌∷◌, take, drop, ℤ}
use Rattle.std.specs.Option.{option_and_then}
use Rattle.std.specs.List.{prefix_len}
use Rattle.mail_dates.specs.declared.reading.Day.{Day}
use Rattle.mail_dates.specs.declared.reading.Time.{Time}
use Rattle.mail_dates.specs.declared.date_time.DateTime.{DateTime}
use Rattle.mail_dates.specs.Gaps.{opens_gap}
use Rattle.mail_dates.specs.Pieces.{goes_on}
use Rattle.mail_dates.specs.Words.{day_of, month_of, year_of, weekday_of, two_digits, mark_of}
use Rattle.mail_dates.specs.Zones.{zone_of}

-- how many comments are open after an octet, and whether it is a backslash that takes the next one with it
unfoldable pub next_state : ℕ → Bool → ℕ → ℕ × Bool
next_state depth true octet = (depth, false)
next_state depth false octet =
    cond (octet == 92) (depth, true)
    (cond (octet == 40) (depth + 1, false)
    (cond (octet == 41) (depth - 1, false)
    (depth, false)))

-- what follows a gap, with that many comments open in it
unfoldable pub after_gap : ℕ → Bool → List ℕ → Option (List ℕ)
after_gap depth escaped [] = cond (depth == 0) (Some []) None
after_gap depth escaped (octet ∷ more) =
    cond (depth == 0 && not (opens_gap octet)) (Some (octet ∷ more))
    (after_gap (next_state depth escaped octet).0 (next_state depth escaped octet).1 more)

-- the piece at the beginning of a text that doesn't begin with a gap
unfoldable pub cut : List ℕ → List ℕ × List ℕ
cut [] = ([], [])
cut (first ∷ more) = (first ∷ take (prefix_len (goes_on first) more) more, drop (prefix_len (goes_on first) more) more)

-- the first piece of a text, and what follows it
unfoldable pub piece : List ℕ → Option (List ℕ × List ℕ)
piece text = option_map cut (after_gap 0 false text)

-- what the first piece of a text means, and what follows it
unfoldable pub reads : {A : Type 0} → (List ℕ → Option A) → List ℕ → Option (A × List ℕ)
reads means text = option_and_then (λ p. option_map (λ value. (value, p.1)) (means p.0)) (piece text)

-- what follows the comma after a day's name, or the text if it has no such name
abbrev pub name_then : List ℕ → Option (ℕ × List ℕ) → Option (List ℕ)
name_then text None = Some text
name_then text (Some name) = option_map (λ r. r.1) (reads (mark_of 44) name.1)

-- what follows a day's name and its comma, or the text
unfoldable pub after_name : List ℕ → Option (List ℕ)
after_name text = name_then text (reads weekday_of text)

-- day month year
unfoldable pub day_from : List ℕ → Option (Day × List ℕ)
day_from text =
    option_and_then (λ d. option_and_then (λ m. option_map (λ y. (record { year = y.0; month = m.0; day = d.0 }, y.1))
    (reads year_of m.1)) (reads month_of d.1)) (reads day_of text)

-- the second after a colon, or 0 if there is no colon
abbrev pub colon_then : List ℕ → Option (ℕ × List ℕ) → Option (ℕ × List ℕ)
colon_then text None = Some (0, text)
colon_then text (Some colon) = reads (two_digits 60) colon.1

-- ":" second, or 0
unfoldable pub second_from : List ℕ → Option (ℕ × List ℕ)
second_from text = colon_then text (reads (mark_of 58) text)

-- hour ":" minute, and a second
unfoldable pub time_from : List ℕ → Option (Time × List ℕ)
time_from text =
    option_and_then (λ h. option_and_then (λ c. option_and_then (λ m. option_map (λ s. (record { hour = h.0; minute = m.0; second = s.0 }, s.1))
    (second_from m.1)) (reads (two_digits 59) c.1)) (reads (mark_of 58) h.1)) (reads (two_digits 23) text)

-- a date, a time and a zone
abbrev pub date_time_of : Day → Time → ℤ → DateTime
date_time_of day time zone = record { year = day.year; month = day.month; day = day.day; hour = time.hour; minute = time.minute; second = time.second; zone = zone }

-- the date and time that a text gives, whether or not the day exists
unfoldable pub parts_from : List ℕ → Option (DateTime × List ℕ)
parts_from text =
    option_and_then (λ start. option_and_then (λ d. option_and_then (λ t. option_map (λ z. (date_time_of d.0 t.0 z.0, z.1))
    (reads zone_of t.1)) (time_from d.1)) (day_from start)) (after_name text)
