-- Arguments that say something have no tag that the grammar doesn't know.
use Rattle.std.proofs.Common.{◌≡◌, ℕ, List, [], ◌∷◌, Option, Some, None, refl, sym, ap, subst}
use Rattle.octets.proofs.Lists.{some_pair}
use Rattle.sieve_syntax.specs.declared.table.tag.Tag.{Tag}
use Rattle.sieve_syntax.specs.declared.table.tag.Tag.TheVariants as T
use Rattle.sieve_syntax.specs.declared.tree.checks.Bound.TheVariants as B
use Rattle.sieve_syntax.specs.declared.tree.checks.Matching.TheVariants as M
use Rattle.sieve_syntax.specs.declared.tree.checks.AddressPart.TheVariants as H
use Rattle.sieve_syntax.specs.declared.parser.argument.Argument.{Argument}
use Rattle.sieve_syntax.specs.declared.parser.argument.Argument.TheVariants as A
use Rattle.sieve_syntax.specs.declared.table.tag_group.TagValue.{TagValue}
use Rattle.sieve_syntax.specs.declared.table.tag_group.TagValue.TheVariants as S
use Rattle.sieve_syntax.specs.declared.table.tag_group.TagGroup.{TagGroup}
use Rattle.sieve_syntax.specs.Chains.{Chain}
use Rattle.sieve_syntax.specs.Positional.{both_there, string_of, one_number, one_text, one_list, two_lists, text_and_list, two_texts_and_list}
use Rattle.sieve_syntax.specs.Rows.{IsTableRow}
use Rattle.sieve_syntax.specs.Tags.{strings_of, IsTagValue, IsAllowed, IsCall}

-- a tag that the grammar knows
abbrev pub IsTag : Tag → Type 0
IsTag T.Other = ⊥
IsTag _ = Unit {0}

-- an argument, and arguments in a row, without any other tag
abbrev pub IsKnown : Argument → Type 0
IsKnown (A.Tag t) = IsTag t
IsKnown _ = Unit {0}

abbrev pub AreKnown : List Argument → Type 0
AreKnown [] = Unit {0}
AreKnown (first ∷ more) = IsKnown first × AreKnown more

strings_known : (value : Argument) (texts : List (List ℕ)) → strings_of value ≡ Some texts → IsKnown value
strings_known (A.Tag t) texts e = absurd (cc e)
strings_known (A.Number n) texts e = tt
strings_known (A.Text string) texts e = tt
strings_known (A.Strings strings) texts e = tt

first_known : (a : Argument) (from to : List Argument) → from ≡ a ∷ to → IsKnown a → AreKnown to → AreKnown from
first_known a from to e known so = subst AreKnown (sym e) (known, so)

-- each tag that the table has is one that the grammar knows
tag_value_known : (s : TagValue) (from to : List Argument) → IsTagValue s from to → AreKnown to → AreKnown from
tag_value_known (S.Bound B.Over) from to e so = first_known _ from to e tt so
tag_value_known (S.Bound B.Under) from to e so = first_known _ from to e tt so
tag_value_known (S.Comparator collation) from to e so = first_known _ from _ e tt (tt, so)
tag_value_known (S.Matching M.Is) from to e so = first_known _ from to e tt so
tag_value_known (S.Matching M.Contains) from to e so = first_known _ from to e tt so
tag_value_known (S.Matching M.Matches) from to e so = first_known _ from to e tt so
tag_value_known (S.Matching (M.Value relation)) from to e so = first_known _ from _ e tt (tt, so)
tag_value_known (S.Matching (M.Count relation)) from to e so = first_known _ from _ e tt (tt, so)
tag_value_known (S.Part H.All) from to e so = first_known _ from to e tt so
tag_value_known (S.Part H.LocalPart) from to e so = first_known _ from to e tt so
tag_value_known (S.Part H.Domain) from to e so = first_known _ from to e tt so
tag_value_known (S.Part H.User) from to e so = first_known _ from to e tt so
tag_value_known (S.Part H.Detail) from to e so = first_known _ from to e tt so
tag_value_known (S.Days days) from to e so = first_known _ from _ e tt (tt, so)
tag_value_known (S.Seconds seconds) from to e so = first_known _ from _ e tt (tt, so)
tag_value_known (S.Subject subject) from to e so = first_known _ from _ e tt (tt, so)
tag_value_known (S.From written) from to e so = first_known _ from _ e tt (tt, so)
tag_value_known (S.Addresses texts) from to (value, (e, strings)) so = first_known _ from _ e tt (strings_known value texts strings, so)
tag_value_known S.Mime from to e so = first_known _ from to e tt so
tag_value_known (S.Handle handle) from to e so = first_known _ from _ e tt (tt, so)
tag_value_known S.Copy from to e so = first_known _ from to e tt so
tag_value_known S.Create from to e so = first_known _ from to e tt so
tag_value_known (S.Zone zone) from to (string, (e, is)) so = first_known _ from _ e tt (tt, so)
tag_value_known S.OriginalZone from to e so = first_known _ from to e tt so
tag_value_known (S.Flags texts) from to (value, (e, strings)) so = first_known _ from _ e tt (strings_known value texts strings, so)

tag_values_known : (allowed : List TagGroup) (tag_values : List TagValue) (from to : List Argument) → Chain (IsAllowed allowed) tag_values from to → AreKnown to → AreKnown from
tag_values_known allowed [] from to e so = subst AreKnown (sym e) so
tag_values_known allowed (s ∷ more) from to (middle, (first, others)) so = tag_value_known s from middle first.0 (tag_values_known allowed more middle to others so)

-- positional arguments
pub number_known : (args : List Argument) (n : ℕ) → one_number args ≡ Some n → AreKnown args
number_known [] n e = tt
number_known (A.Tag t ∷ more) n e = absurd (cc e)
number_known (A.Number m ∷ []) n e = (tt, tt)
number_known (A.Number m ∷ (_ ∷ _)) n e = absurd (cc e)
number_known (A.Text string ∷ more) n e = absurd (cc e)
number_known (A.Strings strings ∷ more) n e = absurd (cc e)

pub text_known : (args : List Argument) (string : List ℕ) → one_text args ≡ Some string → AreKnown args
text_known [] string e = tt
text_known (A.Tag t ∷ more) string e = absurd (cc e)
text_known (A.Number m ∷ more) string e = absurd (cc e)
text_known (A.Text other ∷ []) string e = (tt, tt)
text_known (A.Text other ∷ (_ ∷ _)) string e = absurd (cc e)
text_known (A.Strings strings ∷ more) string e = absurd (cc e)

pub list_known : (args : List Argument) (texts : List (List ℕ)) → one_list args ≡ Some texts → AreKnown args
list_known [] texts e = tt
list_known (value ∷ []) texts e = (strings_known value texts e, tt)
list_known (value ∷ (_ ∷ _)) texts e = absurd (cc e)

pub lists_known : (args : List Argument) (texts : List (List ℕ) × List (List ℕ)) → two_lists args ≡ Some texts → AreKnown args
lists_known [] texts e = tt
lists_known (first ∷ []) texts e = absurd (cc e)
lists_known (first ∷ (second ∷ [])) texts e = step (strings_of first) (strings_of second) refl refl e
  where
    step : (one two : Option (List (List ℕ))) → strings_of first ≡ one → strings_of second ≡ two → both_there one two ≡ Some texts → AreKnown (first ∷ (second ∷ []))
    step (Some one) (Some two) p q e = (strings_known first one p, (strings_known second two q, tt))
    step (Some one) None p q e = absurd (cc e)
    step None two p q e = absurd (cc e)
lists_known (first ∷ (second ∷ (_ ∷ _))) texts e = absurd (cc e)

string_known : (value : Argument) (string : List ℕ) → string_of value ≡ Some string → IsKnown value
string_known (A.Tag t) string e = absurd (cc e)
string_known (A.Number n) string e = tt
string_known (A.Text other) string e = tt
string_known (A.Strings strings) string e = tt

pair_there : {X Y : Type 0} (one : Option X) (two : Option Y) (both : X × Y) → both_there one two ≡ Some both → (one ≡ Some both.0) × (two ≡ Some both.1)
pair_there {X} {Y} (Some x) (Some y) both e = let same = some_pair (x, y) both e in (ap (λ (v : X). Some v) same.0, ap (λ (v : Y). Some v) same.1)
pair_there (Some x) None both e = absurd (cc e)
pair_there None two both e = absurd (cc e)

pub two_known : (args : List Argument) (both : List ℕ × List (List ℕ)) → text_and_list args ≡ Some both → AreKnown args
two_known [] both e = tt
two_known (first ∷ []) both e = absurd (cc e)
two_known (first ∷ (second ∷ [])) both e =
    let there = pair_there (string_of first) (strings_of second) both e in
    (string_known first both.0 there.0, (strings_known second both.1 there.1, tt))
two_known (first ∷ (second ∷ (_ ∷ _))) both e = absurd (cc e)

pub three_known : (args : List Argument) (all : List ℕ × (List ℕ × List (List ℕ))) → two_texts_and_list args ≡ Some all → AreKnown args
three_known [] all e = tt
three_known (first ∷ []) all e = absurd (cc e)
three_known (first ∷ (second ∷ [])) all e = absurd (cc e)
three_known (first ∷ (second ∷ (third ∷ []))) all e =
    let there = pair_there (string_of first) (both_there (string_of second) (strings_of third)) all e in
    let more = pair_there (string_of second) (strings_of third) all.1 there.1 in
    (string_known first all.0 there.0, (string_known second all.1.0 more.0, (strings_known third all.1.1 more.1, tt)))
three_known (first ∷ (second ∷ (third ∷ (_ ∷ _)))) all e = absurd (cc e)

-- the rows of the table
pub row_known : {X T : Type 0} (allowed : List TagGroup) (Says : List TagValue → List Argument → X → Type 0) (make : X → T) → ((tag_values : List TagValue) (positional : List Argument) (x : X) → Says tag_values positional x → AreKnown positional)
    → (args : List Argument) (tree : T) → IsTableRow (IsCall allowed Says) make args tree → AreKnown args
row_known allowed Says make says args tree row =
    let call = row.is in
    tag_values_known allowed call.tag_values args call.positional call.split_tags.written (says call.tag_values call.positional row.value call.says)

pub none_known : (args : List Argument) → args ≡ [] → AreKnown args
none_known args e = subst AreKnown (sym e) tt
