-- `date`: the tests `date` and `currentdate` (RFC 5260, 4 and 5).
use Rattle.std.specs.Prelude.{◌≡◌, ℕ, ℤ, true, List, [], ◌∷◌, Option, Some, None}
use Rattle.mail_dates.specs.Parts.{part_named}
use Rattle.sieve_syntax.specs.declared.parser.argument.Argument.{Argument}
use Rattle.sieve_syntax.specs.declared.table.tag_group.TagValue.{TagValue}
use Rattle.sieve_syntax.specs.declared.table.tag_group.TagValue.TheVariants as S
use Rattle.sieve_syntax.specs.declared.table.tag_group.TagGroup.TheVariants as P
use Rattle.sieve_syntax.specs.declared.capability.Capability.TheVariants as C
use Rattle.sieve_syntax.specs.declared.extension.date.DateTest.{DateTest}
use Rattle.sieve_syntax.specs.declared.extension.date.CurrentDate.{CurrentDate}
use Rattle.sieve_syntax.specs.declared.extension.date.DateZone.{DateZone}
use Rattle.sieve_syntax.specs.declared.extension.date.DateZone.TheVariants as Z
use Rattle.sieve_syntax.specs.Capabilities.{Capabilities}
use Rattle.sieve_syntax.specs.Comparators.{MayMatch}
use Rattle.sieve_syntax.specs.Positional.{text_and_list, two_texts_and_list}
use Rattle.sieve_syntax.specs.TagValues.{comparator_in, matching_in}
use Rattle.sieve_syntax.specs.Tags.{IsCall}

-- the zone in which a date is looked at: the host's unless another is given (RFC 5260, 4.1)
abbrev pub zone_in : List TagValue → DateZone
zone_in [] = Z.Host
zone_in (S.Zone zone ∷ _) = Z.Given zone
zone_in (S.OriginalZone ∷ _) = Z.Original
zone_in (_ ∷ more) = zone_in more

-- date [<":zone" <time-zone: string>> / ":originalzone"] [COMPARATOR] [MATCH-TYPE] <header-name: string> <date-part: string>
-- <key-list: string-list> (RFC 5260, 4)
pub record SaysDate (tag_values : List TagValue) (positional : List Argument) (date : DateTest) : Type 0 where
  pub name : List ℕ
  pub zone : date.zone ≡ zone_in tag_values
  pub comparator : date.comparator ≡ comparator_in tag_values
  pub matching : date.matching ≡ matching_in tag_values
  pub arguments : two_texts_and_list positional ≡ Some (date.field, (name, date.keys))
  pub part : part_named name ≡ Some date.part

abbrev pub IsDateTest : List Argument → DateTest → Type 0
IsDateTest = IsCall (P.Zone ∷ (P.Comparator ∷ (P.Matching ∷ []))) SaysDate

-- the zone in which the moment is looked at; a moment has no original one
abbrev pub without_original : DateZone → Option (Option ℤ)
without_original Z.Host = Some None
without_original (Z.Given zone) = Some (Some zone)
without_original Z.Original = None

-- currentdate [":zone" <time-zone: string>] [COMPARATOR] [MATCH-TYPE] <date-part: string> <key-list: string-list> (RFC 5260, 5)
pub record SaysCurrentDate (tag_values : List TagValue) (positional : List Argument) (current : CurrentDate) : Type 0 where
  pub name : List ℕ
  pub zone : without_original (zone_in tag_values) ≡ Some current.zone
  pub comparator : current.comparator ≡ comparator_in tag_values
  pub matching : current.matching ≡ matching_in tag_values
  pub arguments : text_and_list positional ≡ Some (name, current.keys)
  pub part : part_named name ≡ Some current.part

abbrev pub IsCurrentDateTest : List Argument → CurrentDate → Type 0
IsCurrentDateTest = IsCall (P.Zone ∷ (P.Comparator ∷ (P.Matching ∷ []))) SaysCurrentDate

-- what has to be granted for each
abbrev pub MayAskDate : Capabilities → DateTest → Type 0
MayAskDate granted date = (granted C.Date ≡ true) × MayMatch granted date.comparator date.matching

abbrev pub MayAskCurrentDate : Capabilities → CurrentDate → Type 0
MayAskCurrentDate granted current = (granted C.Date ≡ true) × MayMatch granted current.comparator current.matching
