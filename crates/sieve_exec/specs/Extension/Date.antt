-- `date`: the tests of the date in a field and of the moment of delivery, `date` and `currentdate` (RFC 5260, 4 and 5).
use Rattle.std.specs.Prelude.{◌≡◌, ◌==◌, ◌⊎◌, ◌+◌, ◌*◌, ◌/◌, ◌%◌, ℕ, Bool, true, false, cond, nat_eq, codes, decimal, List, [], ◌∷◌, ◌++◌, Option, Some, None, unwrap_or, MatchBool}
use Rattle.std.specs.List.{list_any}
use Rattle.std.specs.Option.{option_and_then}
use Rattle.std.specs.Cmp.Lexicographic.{pointwise}
use Rattle.octets.specs.Ascii.{lowered}
use Rattle.sieve_syntax.specs.declared.tree.checks.Collation.{Collation}
use Rattle.sieve_syntax.specs.declared.extension.date.CurrentDate.{CurrentDate}
use Rattle.sieve_syntax.specs.declared.extension.date.DateTest.{DateTest}
use Rattle.sieve_syntax.specs.declared.extension.date.DateZone.{DateZone}
use Rattle.sieve_syntax.specs.declared.extension.date.DateZone.TheVariants.{Host, Given, Original}
use Rattle.sieve_syntax.specs.declared.tree.checks.Matching.{Matching}
use Rattle.mail_dates.specs.declared.date_time.DateTime.{DateTime}
use Rattle.mail_dates.specs.declared.part.DatePart.{DatePart}
use Rattle.mail_dates.specs.DateTexts.{IsDateText}
use Rattle.mail_dates.specs.DateTimes.{IsMoment, IsSameMoment}
use Rattle.mail_dates.specs.Finding.{date_of, same_moment_passes, moment_passes}
use Rattle.mail_dates.specs.Parts.{part_text}
use Rattle.sieve_exec.specs.Mails.{MailSpec, field_values}
use Rattle.sieve_exec.specs.Indexes.{raws_keyed}
use Rattle.sieve_exec.specs.Matches.{MatchesSome, matches_some, count_matches}
use Rattle.sieve_exec.specs.Sizes.{text_size, short_sizes, keys_work}
use Rattle.sieve_exec.specs.Extension.Relational.{is_count}

-- ---- the date of a field

-- `;`
abbrev pub is_semicolon : ℕ → Bool
is_semicolon octet = octet == 59

-- a text, and what follows its last semicolon
pub record IsAfterLast (text behind : List ℕ) : Type 0 where
  pub before : List ℕ
  pub cut : text ≡ before ++ 59 ∷ behind
  pub last : list_any is_semicolon behind ≡ false

-- the name, in any ASCII case, is that of the field whose date follows its last semicolon (RFC 5322, 3.6.7)
abbrev pub is_received : List ℕ → Bool
is_received name = pointwise nat_eq (lowered name) (codes "received")

-- what has to read as a date: in such a field what follows there, otherwise the whole value
abbrev pub IsDatePart : Bool → List ℕ → List ℕ → Type 0
IsDatePart true value part = IsAfterLast value part
IsDatePart false value part = part ≡ value

-- the date in the first field with a name (RFC 5260, 4), whose value isn't decoded
pub record IsFieldDate (mail : MailSpec) (name : List ℕ) (date : DateTime) : Type 0 where
  pub value : List ℕ
  pub more : List (List ℕ)
  pub part : List ℕ
  pub first : field_values mail name ≡ value ∷ more
  pub is_part : IsDatePart (is_received name) value part
  pub reads : IsDateText part date

-- how many dates that field has: at most one (RFC 5260, 4)
abbrev pub IsDateCount : MailSpec → List ℕ → ℕ → Type 0
IsDateCount mail name count =
    ((count ≡ 1) × ((date : DateTime) × IsFieldDate mail name date)) ⊎ ((count ≡ 0) × ((date : DateTime) → IsFieldDate mail name date → ⊥))

-- a date by the clock of the zone that a test asks for (RFC 5260, 4.1)
abbrev pub IsDateShown : MailSpec → DateZone → DateTime → DateTime → Type 0
IsDateShown mail Host date shown = IsSameMoment date mail.zone shown
IsDateShown mail (Given zone) date shown = IsSameMoment date zone shown
IsDateShown mail Original date shown = shown ≡ date

-- ---- which tests hold

-- a part of the date in the first field with a name, by the clock of a zone, matches a key (RFC 5260, 4), or the number of dates does in
-- decimal, if values are counted
abbrev pub DateHolds : MailSpec → DateTest → Type 0
DateHolds mail test =
    MatchBool (is_count test.matching)
    ((count : ℕ) × IsDateCount mail test.field count × MatchesSome test.comparator test.matching test.keys (decimal count))
    ((found : DateTime) × (shown : DateTime) × IsFieldDate mail test.field found × IsDateShown mail test.zone found shown
    × MatchesSome test.comparator test.matching test.keys (part_text test.part shown))

-- the same of the moment of delivery, which is one date (RFC 5260, 5)
abbrev pub CurrentDateHolds : MailSpec → CurrentDate → Type 0
CurrentDateHolds mail test =
    MatchBool (is_count test.matching)
    (MatchesSome test.comparator test.matching test.keys (decimal 1))
    ((shown : DateTime) × IsMoment mail.moment (unwrap_or test.zone mail.zone) shown
    × MatchesSome test.comparator test.matching test.keys (part_text test.part shown))

-- ---- the same as functions

-- what follows the last semicolon of a text, if it has one
abbrev pub after_last : List ℕ → Option (List ℕ)
after_last [] = None
after_last (octet ∷ rest) = cond (list_any is_semicolon rest) (after_last rest) (cond (is_semicolon octet) (Some rest) None)

-- what has to read as a date, if it is there
abbrev pub date_part_of : Bool → List ℕ → Option (List ℕ)
date_part_of received value = cond received (after_last value) (Some value)

-- the date of the first value, if there is one
abbrev pub first_date : Bool → List (List ℕ) → Option DateTime
first_date received [] = None
first_date received (value ∷ more) = option_and_then date_of (date_part_of received value)

-- the date in the first field with a name, if there is one
abbrev pub field_date : MailSpec → List ℕ → Option DateTime
field_date mail name = first_date (is_received name) (field_values mail name)

-- how many dates that is
abbrev pub date_count : Option DateTime → ℕ
date_count None = 0
date_count (Some date) = 1

-- whether a date, by the clock of the zone that a test asks for, passes
abbrev pub shown_passes : MailSpec → DateZone → (DateTime → Bool) → DateTime → Bool
shown_passes mail Host passes date = same_moment_passes date mail.zone passes
shown_passes mail (Given zone) passes date = same_moment_passes date zone passes
shown_passes mail Original passes date = passes date

-- whether there is a date and it passes like that
abbrev pub found_passes : MailSpec → DateZone → (DateTime → Bool) → Option DateTime → Bool
found_passes mail zone passes None = false
found_passes mail zone passes (Some date) = shown_passes mail zone passes date

-- whether the part of a date matches a key
abbrev pub date_matches : Collation → Matching → List (List ℕ) → DatePart → DateTime → Bool
date_matches collation matching keys part date = matches_some collation matching keys (part_text part date)

-- whether `date` holds
abbrev pub date_holds : MailSpec → DateTest → Bool
date_holds mail test =
    cond (is_count test.matching)
    (count_matches test.comparator test.matching test.keys (date_count (field_date mail test.field)))
    (found_passes mail test.zone (date_matches test.comparator test.matching test.keys test.part) (field_date mail test.field))

-- whether `currentdate` holds
abbrev pub current_holds : MailSpec → CurrentDate → Bool
current_holds mail test =
    cond (is_count test.matching)
    (count_matches test.comparator test.matching test.keys 1)
    (moment_passes (mail.moment / 60) (mail.moment % 60) (unwrap_or test.zone mail.zone) (date_matches test.comparator test.matching test.keys test.part))

-- ---- the work of a test

-- the size of the value that a date is read from: the first one, as it is in the message
abbrev pub first_size : List (List ℕ) → ℕ
first_size [] = 0
first_size (raw ∷ more) = text_size raw

-- the work of looking up a field by its name and of reading its first value
abbrev pub reading_work : MailSpec → List ℕ → ℕ
reading_work mail field = 16 * (text_size field + first_size (raws_keyed mail.fields (lowered field)))

-- the work of `date`: the field is read, and then a part of its date compared
abbrev pub date_work : MailSpec → DateTest → ℕ
date_work mail test = reading_work mail test.field + keys_work 1 test.matching short_sizes test.keys

-- the work of `currentdate`
abbrev pub current_work : CurrentDate → ℕ
current_work test = keys_work 1 test.matching short_sizes test.keys
