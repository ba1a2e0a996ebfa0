-- `imap4flags`: `:flags` of `keep` and `fileinto`, `setflag`, `addflag`, `removeflag`, and the test `hasflag` (RFC 5232).
use Rattle.std.specs.Prelude.{◌≡◌, ℕ, true, List, [], ◌∷◌, Option, Some, None}
use Rattle.sieve_syntax.specs.declared.parser.argument.Argument.{Argument}
use Rattle.sieve_syntax.specs.declared.table.tag_group.TagValue.{TagValue}
use Rattle.sieve_syntax.specs.declared.table.tag_group.TagValue.TheVariants as S
use Rattle.sieve_syntax.specs.declared.table.tag_group.TagGroup.TheVariants as P
use Rattle.sieve_syntax.specs.declared.capability.Capability.TheVariants as C
use Rattle.sieve_syntax.specs.declared.extension.imap4flags.HasFlag.{HasFlag}
use Rattle.sieve_syntax.specs.Capabilities.{Capabilities}
use Rattle.sieve_syntax.specs.Comparators.{MayMatch}
use Rattle.sieve_syntax.specs.Positional.{one_list}
use Rattle.sieve_syntax.specs.Rows.{IsList}
use Rattle.sieve_syntax.specs.TagValues.{comparator_in, matching_in}
use Rattle.sieve_syntax.specs.Tags.{IsCall}

-- the texts of `:flags`, if they are given (RFC 5232, 5)
abbrev pub flags_in : List TagValue → Option (List (List ℕ))
flags_in [] = None
flags_in (S.Flags texts ∷ _) = Some texts
flags_in (_ ∷ more) = flags_in more

-- hasflag [MATCH-TYPE] [COMPARATOR] <list-of-flags: string-list> (RFC 5232, 4)
pub record SaysHasFlag (tag_values : List TagValue) (positional : List Argument) (flag : HasFlag) : Type 0 where
  pub comparator : flag.comparator ≡ comparator_in tag_values
  pub matching : flag.matching ≡ matching_in tag_values
  pub keys : one_list positional ≡ Some flag.keys

abbrev pub IsHasFlagTest : List Argument → HasFlag → Type 0
IsHasFlagTest = IsCall (P.Comparator ∷ (P.Matching ∷ [])) SaysHasFlag

-- what has to be granted for it
abbrev pub MayAskHasFlag : Capabilities → HasFlag → Type 0
MayAskHasFlag granted flag = (granted C.Imap4flags ≡ true) × MayMatch granted flag.comparator flag.matching

-- setflag <list-of-flags: string-list>, and addflag and removeflag alike (RFC 5232, 3.1 to 3.3)
abbrev pub IsFlagList : List Argument → List (List ℕ) → Type 0
IsFlagList = IsList

-- what has to be granted for them
abbrev pub MaySetFlags : Capabilities → Type 0
MaySetFlags granted = granted C.Imap4flags ≡ true
