-- Tagged arguments: each tag with its value, in any order, and then the positional arguments (RFC 5228, 2.6.2).
use Rattle.std.specs.Prelude.{◌≡◌, ℕ, List, [], ◌∷◌, map, codes, Option, Some, None}
use Rattle.std.specs.List.{Contains}
use Rattle.sieve_syntax.specs.declared.table.tag.Tag.{Tag}
use Rattle.sieve_syntax.specs.declared.table.tag.Tag.TheVariants as T
use Rattle.sieve_syntax.specs.declared.tree.checks.Bound.{Bound}
use Rattle.sieve_syntax.specs.declared.tree.checks.Bound.TheVariants as B
use Rattle.sieve_syntax.specs.declared.tree.checks.Matching.{Matching}
use Rattle.sieve_syntax.specs.declared.tree.checks.Matching.TheVariants as M
use Rattle.sieve_syntax.specs.declared.tree.checks.AddressPart.{AddressPart}
use Rattle.sieve_syntax.specs.declared.tree.checks.AddressPart.TheVariants as H
use Rattle.sieve_syntax.specs.declared.tree.checks.Collation.{Collation}
use Rattle.sieve_syntax.specs.declared.tree.checks.Collation.TheVariants as C
use Rattle.sieve_syntax.specs.declared.parser.argument.Argument.{Argument}
use Rattle.sieve_syntax.specs.declared.parser.argument.Argument.TheVariants as A
use Rattle.sieve_syntax.specs.declared.table.tag_group.TagValue.{TagValue}
use Rattle.sieve_syntax.specs.declared.table.tag_group.TagValue.TheVariants as S
use Rattle.sieve_syntax.specs.declared.table.tag_group.TagGroup.{TagGroup}
use Rattle.sieve_syntax.specs.declared.table.tag_group.TagGroup.TheVariants as P
use Rattle.mail_dates.specs.Zones.{IsOffset}
use Rattle.sieve_syntax.specs.Extension.Relational.{relation_name}
use Rattle.sieve_syntax.specs.Chains.{Chain}

-- the tag of a side of a limit
abbrev pub bound_tag : Bound → Tag
bound_tag B.Over = T.Over
bound_tag B.Under = T.Under

-- how a match type is written (RFC 5228, 2.7.1; RFC 5231, 4)
abbrev pub IsMatchType : Matching → List Argument → List Argument → Type 0
IsMatchType M.Is from to = from ≡ A.Tag T.Is ∷ to
IsMatchType M.Contains from to = from ≡ A.Tag T.Contains ∷ to
IsMatchType M.Matches from to = from ≡ A.Tag T.Matches ∷ to
IsMatchType (M.Value relation) from to = from ≡ A.Tag T.Value ∷ (A.Text (relation_name relation) ∷ to)
IsMatchType (M.Count relation) from to = from ≡ A.Tag T.Count ∷ (A.Text (relation_name relation) ∷ to)

-- the tag of a part of an address
abbrev pub part_tag : AddressPart → Tag
part_tag H.All = T.All
part_tag H.LocalPart = T.LocalPart
part_tag H.Domain = T.Domain
part_tag H.User = T.User
part_tag H.Detail = T.Detail

-- the name of a comparator, by octets (RFC 4790, 9.1 to 9.3)
abbrev pub collation_name : Collation → List ℕ
collation_name C.Octet = codes "i;octet"
collation_name C.AsciiCasemap = codes "i;ascii-casemap"
collation_name C.AsciiNumeric = codes "i;ascii-numeric"

-- the strings of an argument: a string stands for the list that has only it (RFC 5228, 2.4.2.1)
abbrev pub strings_of : Argument → Option (List (List ℕ))
strings_of (A.Text string) = Some (string ∷ [])
strings_of (A.Strings strings) = Some strings
strings_of _ = None

-- how each tag is written with its value: the table of tags
abbrev pub IsTagValue : TagValue → List Argument → List Argument → Type 0
IsTagValue (S.Bound bound) from to = from ≡ A.Tag (bound_tag bound) ∷ to
IsTagValue (S.Comparator collation) from to = from ≡ A.Tag T.Comparator ∷ (A.Text (collation_name collation) ∷ to)
IsTagValue (S.Matching matching) from to = IsMatchType matching from to
IsTagValue (S.Part part) from to = from ≡ A.Tag (part_tag part) ∷ to
IsTagValue (S.Days days) from to = from ≡ A.Tag T.Days ∷ (A.Number days ∷ to)
IsTagValue (S.Seconds seconds) from to = from ≡ A.Tag T.Seconds ∷ (A.Number seconds ∷ to)
IsTagValue (S.Subject subject) from to = from ≡ A.Tag T.Subject ∷ (A.Text subject ∷ to)
IsTagValue (S.From text) from to = from ≡ A.Tag T.From ∷ (A.Text text ∷ to)
IsTagValue (S.Addresses texts) from to = (value : Argument) × ((from ≡ A.Tag T.Addresses ∷ (value ∷ to)) × (strings_of value ≡ Some texts))
IsTagValue S.Mime from to = from ≡ A.Tag T.Mime ∷ to
IsTagValue (S.Handle handle) from to = from ≡ A.Tag T.Handle ∷ (A.Text handle ∷ to)
IsTagValue S.Copy from to = from ≡ A.Tag T.Copy ∷ to
IsTagValue S.Create from to = from ≡ A.Tag T.Create ∷ to
IsTagValue (S.Zone zone) from to = (string : List ℕ) × ((from ≡ A.Tag T.Zone ∷ (A.Text string ∷ to)) × IsOffset string zone)
IsTagValue S.OriginalZone from to = from ≡ A.Tag T.OriginalZone ∷ to
IsTagValue (S.Flags texts) from to = (value : Argument) × ((from ≡ A.Tag T.Flags ∷ (value ∷ to)) × (strings_of value ≡ Some texts))

-- the group of a tag: tags that exclude each other are in one group
abbrev pub group_of : TagValue → TagGroup
group_of (S.Bound _) = P.Bound
group_of (S.Comparator _) = P.Comparator
group_of (S.Matching _) = P.Matching
group_of (S.Part _) = P.Part
group_of (S.Days _) = P.Period
group_of (S.Seconds _) = P.Period
group_of (S.Subject _) = P.Subject
group_of (S.From _) = P.From
group_of (S.Addresses _) = P.Addresses
group_of S.Mime = P.Mime
group_of (S.Handle _) = P.Handle
group_of S.Copy = P.Copy
group_of S.Create = P.Create
group_of (S.Zone _) = P.Zone
group_of S.OriginalZone = P.Zone
group_of (S.Flags _) = P.Flags

-- no group occurs twice
abbrev pub AreGroupsApart : List TagGroup → Type 0
AreGroupsApart [] = Unit {0}
AreGroupsApart (first ∷ more) = (Contains more first → ⊥) × AreGroupsApart more

-- a tag of one of these groups comes first
abbrev pub IsAllowed : List TagGroup → TagValue → List Argument → List Argument → Type 0
IsAllowed allowed tag_value from to = IsTagValue tag_value from to × Contains allowed (group_of tag_value)

-- no tag comes first
abbrev pub BeginsUntagged : List Argument → Type 0
BeginsUntagged [] = Unit {0}
BeginsUntagged (A.Tag _ ∷ _) = ⊥
BeginsUntagged (_ ∷ _) = Unit {0}

-- tags of these groups, each group at most once, in any order, and then the positional arguments
pub record IsSplit (allowed : List TagGroup) (args : List Argument) (tag_values : List TagValue) (positional : List Argument) : Type 0 where
  pub written : Chain (IsAllowed allowed) tag_values args positional
  pub plain : BeginsUntagged positional
  pub once : AreGroupsApart (map group_of tag_values)

-- tags of these groups, in any order, and positional arguments, that say this
pub record IsCall {X : Type 0} (allowed : List TagGroup) (Says : List TagValue → List Argument → X → Type 0) (args : List Argument) (x : X) : Type 0 where
  pub tag_values : List TagValue
  pub positional : List Argument
  pub split_tags : IsSplit allowed args tag_values positional
  pub says : Says tag_values positional x

-- the arguments are split in no other way
abbrev pub IsSplitAlone : List TagGroup → List Argument → List TagValue → List Argument → Type 0
IsSplitAlone allowed args tag_values positional =
    (others : List TagValue) (rest : List Argument) → IsSplit allowed args others rest → (others ≡ tag_values) × (rest ≡ positional)

-- no tag of an allowed group that isn't taken yet comes first
abbrev pub HasNoTag : List TagGroup → List TagGroup → List Argument → Type 0
HasNoTag allowed taken args = (s : TagValue) (to : List Argument) → IsAllowed allowed s args to → (Contains taken (group_of s) → ⊥) → ⊥
