-- Lemmas on tags.
use Rattle.std.proofs.Common.{◌≡◌, ℕ, ℤ, List, [], ◌∷◌, ◌++◌, map, Option, Some, None, option_map, cond, codes, nat_eq, refl, sym, ap, ◌∙◌, subst, length, get_or, ◌<◌, arith, inl, inr}
use Rattle.std.specs.List.{Contains}
use Rattle.std.proofs.lemmas.List.{get_or-map, length-map}
use Rattle.std.proofs.lemmas.List.Elements.{Contains-append_left, Contains-append_right, Contains-append_cases, Contains-push, Contains-push_cases}
use Rattle.std.specs.Cmp.Lexicographic.{pointwise}
use Rattle.octets.proofs.Lists.{some_pair}
use Rattle.mail_dates.specs.Zones.{numeric_of, IsOffset}
use Rattle.mail_dates.proofs.WordLemmas.{map_some}
use Rattle.mail_dates.proofs.ZoneLaws.{numeric_is, numeric_again}
use Rattle.sieve_syntax.specs.declared.table.tag.Tag.TheVariants as T
use Rattle.sieve_syntax.specs.declared.tree.checks.Bound.TheVariants as B
use Rattle.sieve_syntax.specs.declared.tree.checks.Matching.TheVariants as M
use Rattle.sieve_syntax.specs.declared.extension.relational.Relation.{Relation}
use Rattle.sieve_syntax.specs.declared.extension.relational.Relation.TheVariants as R
use Rattle.sieve_syntax.specs.declared.tree.checks.AddressPart.TheVariants as H
use Rattle.sieve_syntax.specs.declared.tree.checks.Collation.{Collation}
use Rattle.sieve_syntax.specs.declared.tree.checks.Collation.TheVariants as C
use Rattle.sieve_syntax.specs.declared.parser.argument.Argument.{Argument}
use Rattle.sieve_syntax.specs.declared.parser.argument.Argument.TheVariants as A
use Rattle.sieve_syntax.specs.declared.table.tag_group.TagValue.{TagValue}
use Rattle.sieve_syntax.specs.declared.table.tag_group.TagValue.TheVariants as S
use Rattle.sieve_syntax.specs.declared.table.tag_group.TagGroup.{TagGroup}
use Rattle.sieve_syntax.specs.Chains.{Chain}
use Rattle.sieve_syntax.specs.Tags.{strings_of, IsTagValue, group_of, AreGroupsApart, IsAllowed, BeginsUntagged, IsSplit, HasNoTag}
use Rattle.sieve_syntax.proofs.Chains.{IsSoFar, chain_more, chain_ends}

abbrev collation_named : List ℕ → Option Collation
collation_named name = cond (pointwise nat_eq name (codes "i;octet")) (Some C.Octet) (cond (pointwise nat_eq name (codes "i;ascii-casemap")) (Some C.AsciiCasemap) (cond (pointwise nat_eq name (codes "i;ascii-numeric")) (Some C.AsciiNumeric) None))

abbrev relation_named : List ℕ → Option Relation
relation_named name =
    cond (pointwise nat_eq name (codes "gt")) (Some R.Greater)
    (cond (pointwise nat_eq name (codes "ge")) (Some R.GreaterOrEqual)
    (cond (pointwise nat_eq name (codes "lt")) (Some R.Less)
    (cond (pointwise nat_eq name (codes "le")) (Some R.LessOrEqual)
    (cond (pointwise nat_eq name (codes "eq")) (Some R.Equal)
    (cond (pointwise nat_eq name (codes "ne")) (Some R.NotEqual) None)))))

-- the tag at the front, read
abbrev tag_value_read : List Argument → Option (TagValue × List Argument)
tag_value_read (A.Tag T.Over ∷ to) = Some (S.Bound B.Over, to)
tag_value_read (A.Tag T.Under ∷ to) = Some (S.Bound B.Under, to)
tag_value_read (A.Tag T.Is ∷ to) = Some (S.Matching M.Is, to)
tag_value_read (A.Tag T.Contains ∷ to) = Some (S.Matching M.Contains, to)
tag_value_read (A.Tag T.Matches ∷ to) = Some (S.Matching M.Matches, to)
tag_value_read (A.Tag T.Value ∷ (A.Text name ∷ to)) = option_map (λ r. (S.Matching (M.Value r), to)) (relation_named name)
tag_value_read (A.Tag T.Count ∷ (A.Text name ∷ to)) = option_map (λ r. (S.Matching (M.Count r), to)) (relation_named name)
tag_value_read (A.Tag T.All ∷ to) = Some (S.Part H.All, to)
tag_value_read (A.Tag T.LocalPart ∷ to) = Some (S.Part H.LocalPart, to)
tag_value_read (A.Tag T.Domain ∷ to) = Some (S.Part H.Domain, to)
tag_value_read (A.Tag T.User ∷ to) = Some (S.Part H.User, to)
tag_value_read (A.Tag T.Detail ∷ to) = Some (S.Part H.Detail, to)
tag_value_read (A.Tag T.Mime ∷ to) = Some (S.Mime, to)
tag_value_read (A.Tag T.Comparator ∷ (A.Text name ∷ to)) = option_map (λ c. (S.Comparator c, to)) (collation_named name)
tag_value_read (A.Tag T.Days ∷ (A.Number n ∷ to)) = Some (S.Days n, to)
tag_value_read (A.Tag T.Copy ∷ to) = Some (S.Copy, to)
tag_value_read (A.Tag T.Create ∷ to) = Some (S.Create, to)
tag_value_read (A.Tag T.Zone ∷ (A.Text s ∷ to)) = option_map (λ z. (S.Zone z, to)) (numeric_of s)
tag_value_read (A.Tag T.OriginalZone ∷ to) = Some (S.OriginalZone, to)
tag_value_read (A.Tag T.Seconds ∷ (A.Number n ∷ to)) = Some (S.Seconds n, to)
tag_value_read (A.Tag T.Subject ∷ (A.Text s ∷ to)) = Some (S.Subject s, to)
tag_value_read (A.Tag T.From ∷ (A.Text s ∷ to)) = Some (S.From s, to)
tag_value_read (A.Tag T.Handle ∷ (A.Text s ∷ to)) = Some (S.Handle s, to)
tag_value_read (A.Tag T.Addresses ∷ (a ∷ to)) = option_map (λ xs. (S.Addresses xs, to)) (strings_of a)
tag_value_read (A.Tag T.Flags ∷ (a ∷ to)) = option_map (λ xs. (S.Flags xs, to)) (strings_of a)
tag_value_read _ = None

tag_value_again : (s : TagValue) (from to : List Argument) → IsTagValue s from to → tag_value_read from ≡ Some (s, to)
tag_value_again (S.Bound B.Over) from to at = ap tag_value_read at
tag_value_again (S.Bound B.Under) from to at = ap tag_value_read at
tag_value_again (S.Comparator C.Octet) from to at = ap tag_value_read at
tag_value_again (S.Comparator C.AsciiCasemap) from to at = ap tag_value_read at
tag_value_again (S.Comparator C.AsciiNumeric) from to at = ap tag_value_read at
tag_value_again (S.Matching M.Is) from to at = ap tag_value_read at
tag_value_again (S.Matching M.Contains) from to at = ap tag_value_read at
tag_value_again (S.Matching M.Matches) from to at = ap tag_value_read at
tag_value_again (S.Matching (M.Value R.Greater)) from to at = ap tag_value_read at
tag_value_again (S.Matching (M.Value R.GreaterOrEqual)) from to at = ap tag_value_read at
tag_value_again (S.Matching (M.Value R.Less)) from to at = ap tag_value_read at
tag_value_again (S.Matching (M.Value R.LessOrEqual)) from to at = ap tag_value_read at
tag_value_again (S.Matching (M.Value R.Equal)) from to at = ap tag_value_read at
tag_value_again (S.Matching (M.Value R.NotEqual)) from to at = ap tag_value_read at
tag_value_again (S.Matching (M.Count R.Greater)) from to at = ap tag_value_read at
tag_value_again (S.Matching (M.Count R.GreaterOrEqual)) from to at = ap tag_value_read at
tag_value_again (S.Matching (M.Count R.Less)) from to at = ap tag_value_read at
tag_value_again (S.Matching (M.Count R.LessOrEqual)) from to at = ap tag_value_read at
tag_value_again (S.Matching (M.Count R.Equal)) from to at = ap tag_value_read at
tag_value_again (S.Matching (M.Count R.NotEqual)) from to at = ap tag_value_read at
tag_value_again (S.Part H.All) from to at = ap tag_value_read at
tag_value_again (S.Part H.LocalPart) from to at = ap tag_value_read at
tag_value_again (S.Part H.Domain) from to at = ap tag_value_read at
tag_value_again (S.Part H.User) from to at = ap tag_value_read at
tag_value_again (S.Part H.Detail) from to at = ap tag_value_read at
tag_value_again (S.Days n) from to at = ap tag_value_read at
tag_value_again (S.Seconds n) from to at = ap tag_value_read at
tag_value_again (S.Subject s) from to at = ap tag_value_read at
tag_value_again (S.From s) from to at = ap tag_value_read at
tag_value_again (S.Addresses xs) from to at = ap tag_value_read at.1.0 ∙ ap (option_map (λ ys. (S.Addresses ys, to))) at.1.1
tag_value_again S.Mime from to at = ap tag_value_read at
tag_value_again (S.Handle s) from to at = ap tag_value_read at
tag_value_again S.Copy from to at = ap tag_value_read at
tag_value_again S.Create from to at = ap tag_value_read at
tag_value_again (S.Zone zone) from to (string, (at, is)) = ap tag_value_read at ∙ ap (option_map (λ z. (S.Zone z, to))) (numeric_again string zone is)
tag_value_again S.OriginalZone from to at = ap tag_value_read at
tag_value_again (S.Flags xs) from to at = ap tag_value_read at.1.0 ∙ ap (option_map (λ ys. (S.Flags ys, to))) at.1.1

-- where no zone follows, no tag stands at the front
pub zone_nowhere : (args : List Argument) → ((s : List ℕ) (zone : ℤ) (to : List Argument) → args ≡ A.Text s ∷ to → IsOffset s zone → ⊥) → (s : TagValue) (to : List Argument) → IsTagValue s (A.Tag T.Zone ∷ args) to → ⊥
zone_nowhere args none s to at = step args none (tag_value_again s (A.Tag T.Zone ∷ args) to at)
  where
    step : (rest : List Argument) → ((string : List ℕ) (zone : ℤ) (end : List Argument) → rest ≡ A.Text string ∷ end → IsOffset string zone → ⊥) → tag_value_read (A.Tag T.Zone ∷ rest) ≡ Some (s, to) → ⊥
    step [] nowhere e = absurd (cc e)
    step (A.Tag t ∷ more) nowhere e = absurd (cc e)
    step (A.Number n ∷ more) nowhere e = absurd (cc e)
    step (A.Strings strings ∷ more) nowhere e = absurd (cc e)
    step (A.Text string ∷ more) nowhere e = let found = map_some _ (numeric_of string) (s, to) e in nowhere string found.0 more refl (numeric_is string found.0 found.1.0)

-- at most one tag stands at the front
pub tag_value_only : (s t : TagValue) (from to end : List Argument) → IsTagValue s from to → IsTagValue t from end → (t ≡ s) × (end ≡ to)
tag_value_only s t from to end at also = some_pair (t, end) (s, to) (sym (tag_value_again t from end also) ∙ tag_value_again s from to at)

-- a group is that of a tag
pub group_there : (tags : List TagValue) (k : ℕ) (d : TagValue) (group : TagGroup) → k < length tags → group_of (get_or tags k d) ≡ group → Contains (map group_of tags) group
group_there tags k d group short is = (k, omega (arith, length-map tags group_of, short), get_or-map group_of tags k d group short ∙ is)

-- and it is that of none
pub group_absent : (tags : List TagValue) (group : TagGroup) → ((k : ℕ) (d : TagValue) → k < length tags → group_of (get_or tags k d) ≡ group → ⊥) → Contains (map group_of tags) group → ⊥
group_absent tags group none (k, within, at) =
    let short : k < length tags = omega (arith, length-map tags group_of, within) in
    none k S.Mime short (sym (get_or-map group_of tags k S.Mime group short) ∙ at)

-- a tag of no allowed group, or of a group that is taken, stands first: no other does
pub not_allowed : (allowed taken : List TagGroup) (t : TagValue) (from end : List Argument) → IsTagValue t from end → (Contains allowed (group_of t) → ⊥) → HasNoTag allowed taken from
not_allowed allowed taken t from end at bad s to is free = bad (subst (λ x. Contains allowed (group_of x)) (sym (tag_value_only s t from to end is.0 at).0) is.1)

pub not_free : (allowed taken : List TagGroup) (t : TagValue) (from end : List Argument) → IsTagValue t from end → Contains taken (group_of t) → HasNoTag allowed taken from
not_free allowed taken t from end at among s to is free = free (subst (λ x. Contains taken (group_of x)) (tag_value_only s t from to end is.0 at).0 among)

pub not_there : (allowed taken : List TagGroup) (from : List Argument) → ((t : TagValue) (to : List Argument) → IsTagValue t from to → ⊥) → HasNoTag allowed taken from
not_there allowed taken from none s to is free = none s to is.0

-- a tag begins with a tag
pub plain_none : (s : TagValue) (from to : List Argument) → IsTagValue s from to → BeginsUntagged from → ⊥
plain_none (S.Bound bound) from to at plain = subst BeginsUntagged at plain
plain_none (S.Comparator c) from to at plain = subst BeginsUntagged at plain
plain_none (S.Matching M.Is) from to at plain = subst BeginsUntagged at plain
plain_none (S.Matching M.Contains) from to at plain = subst BeginsUntagged at plain
plain_none (S.Matching M.Matches) from to at plain = subst BeginsUntagged at plain
plain_none (S.Matching (M.Value r)) from to at plain = subst BeginsUntagged at plain
plain_none (S.Matching (M.Count r)) from to at plain = subst BeginsUntagged at plain
plain_none (S.Part p) from to at plain = subst BeginsUntagged at plain
plain_none (S.Days n) from to at plain = subst BeginsUntagged at plain
plain_none (S.Seconds n) from to at plain = subst BeginsUntagged at plain
plain_none (S.Subject s) from to at plain = subst BeginsUntagged at plain
plain_none (S.From s) from to at plain = subst BeginsUntagged at plain
plain_none (S.Addresses xs) from to at plain = subst BeginsUntagged at.1.0 plain
plain_none S.Mime from to at plain = subst BeginsUntagged at plain
plain_none (S.Handle s) from to at plain = subst BeginsUntagged at plain
plain_none S.Copy from to at plain = subst BeginsUntagged at plain
plain_none S.Create from to at plain = subst BeginsUntagged at plain
plain_none (S.Zone zone) from to at plain = subst BeginsUntagged at.1.0 plain
plain_none S.OriginalZone from to at plain = subst BeginsUntagged at plain
plain_none (S.Flags xs) from to at plain = subst BeginsUntagged at.1.0 plain

-- nothing is among none
pub none_there : (x : TagGroup) → Contains [] x → ⊥
none_there x among = omega (arith, among.1)

-- the first of them is
pub first_there : (x : TagGroup) (xs : List TagGroup) → Contains (x ∷ xs) x
first_there x xs = Contains-append_left (x ∷ []) xs x (Contains-push [] x)

-- one group more
pub apart_push : (xs : List TagGroup) (x : TagGroup) → AreGroupsApart xs → (Contains xs x → ⊥) → AreGroupsApart (xs ++ x ∷ [])
apart_push [] x apart free = (λ among. none_there x among, tt)
apart_push (y ∷ ys) x apart free = (λ among. free (either among), apart_push ys x apart.1 (λ among. free (Contains-append_right (y ∷ []) ys x among)))
  where
    either : Contains (ys ++ x ∷ []) y → Contains (y ∷ ys) x
    either among = elim (Contains-push_cases ys x y among) [ inl there ↦ absurd (apart.0 there) | inr same ↦ subst (Contains (y ∷ ys)) (sym same) (first_there y ys) ]

-- a group isn't among those before it
pub apart_not : (xs : List TagGroup) (y : TagGroup) (ys : List TagGroup) → AreGroupsApart (xs ++ y ∷ ys) → Contains xs y → ⊥
apart_not [] y ys apart among = none_there y among
apart_not (x ∷ xs) y ys apart among = elim (Contains-append_cases (x ∷ []) xs y among) [
  | inl first ↦ elim (Contains-push_cases [] x y first) [ inl none ↦ none_there y none | inr same ↦ apart.0 (subst (Contains (xs ++ y ∷ ys)) (sym same) (Contains-append_right xs (y ∷ ys) y (first_there y ys))) ]
  | inr more ↦ apart_not xs y ys apart.1 more
]

map_middle : (xs : List TagValue) (y : TagValue) (ys : List TagValue) → map group_of (xs ++ y ∷ ys) ≡ map group_of xs ++ group_of y ∷ map group_of ys
map_middle [] y ys = refl
map_middle (x ∷ xs) y ys = ap (λ l. group_of x ∷ l) (map_middle xs y ys)

-- what the loop keeps
pub record IsTaken (allowed : List TagGroup) (args : List Argument) (tag_values : List TagValue) (taken : List TagGroup) (rest : List Argument) : Type 0 where
  pub so_far : IsSoFar (IsAllowed allowed) BeginsUntagged args tag_values rest
  pub taken_is : taken ≡ map group_of tag_values
  pub apart : AreGroupsApart taken

module _ (allowed : List TagGroup) (args : List Argument) where
  pub taken_more : (tag_values : List TagValue) (taken : List TagGroup) (rest : List Argument) → IsTaken allowed args tag_values taken rest → (s : TagValue) (after : List Argument) → IsAllowed allowed s rest after → (Contains taken (group_of s) → ⊥) → IsTaken allowed args (tag_values ++ s ∷ []) (taken ++ group_of s ∷ []) after
  taken_more tag_values taken rest kept s after at free = record {
    so_far = chain_more (IsAllowed allowed) BeginsUntagged args tag_values rest s after kept.so_far at (λ y to also. tag_value_only s y rest after to at.0 also.0) (plain_none s rest after at.0);
    taken_is = ap (λ l. l ++ group_of s ∷ []) kept.taken_is ∙ sym (map_middle tag_values s []);
    apart = apart_push taken (group_of s) kept.apart free;
  }

  -- the same of the groups of the tags so far
  pub settled_more : (tag_values : List TagValue) (rest : List Argument) → IsTaken allowed args tag_values (map group_of tag_values) rest → (s : TagValue) (after : List Argument) → IsAllowed allowed s rest after → (Contains (map group_of tag_values) (group_of s) → ⊥) → IsTaken allowed args (tag_values ++ s ∷ []) (map group_of (tag_values ++ s ∷ [])) after
  settled_more tag_values rest kept s after at free = subst (λ l. IsTaken allowed args (tag_values ++ s ∷ []) l after) (sym (map_middle tag_values s [])) (taken_more tag_values (map group_of tag_values) rest kept s after at free)

  -- no tag stands there: the tags are all
  pub taken_ends : (tag_values : List TagValue) (taken : List TagGroup) (rest : List Argument) → IsTaken allowed args tag_values taken rest → BeginsUntagged rest → IsSplit allowed args tag_values rest × ((others : List TagValue) (positional : List Argument) → IsSplit allowed args others positional → (others ≡ tag_values) × (positional ≡ rest))
  taken_ends tag_values taken rest kept plain = (
    record { written = kept.so_far.joins; plain = plain; once = subst AreGroupsApart kept.taken_is kept.apart },
    λ others positional is. chain_ends (IsAllowed allowed) BeginsUntagged args tag_values rest kept.so_far (λ y to at. plain_none y rest to at.0 plain) others positional is.written is.plain,
  )

  -- a tag stands there, and no tag of a free group
  pub taken_fails : (tag_values : List TagValue) (taken : List TagGroup) (rest : List Argument) → IsTaken allowed args tag_values taken rest → (BeginsUntagged rest → ⊥) → ((s : TagValue) (to : List Argument) → IsAllowed allowed s rest to → (Contains taken (group_of s) → ⊥) → ⊥) → (others : List TagValue) (positional : List Argument) → IsSplit allowed args others positional → ⊥
  taken_fails tag_values taken rest kept begun none others positional is = let found = kept.so_far.only others positional is.written is.plain in last found.0 found.1.0 found.1.1
    where
      last : (more : List TagValue) → others ≡ tag_values ++ more → Chain (IsAllowed allowed) more rest positional → ⊥
      last [] same at = begun (subst BeginsUntagged (sym at) is.plain)
      last (y ∷ ys) same chain =
          let all : AreGroupsApart (map group_of tag_values ++ group_of y ∷ map group_of ys) = subst AreGroupsApart (ap (map group_of) same ∙ map_middle tag_values y ys) is.once in
          none y chain.0 chain.1.0 (λ among. apart_not (map group_of tag_values) (group_of y) (map group_of ys) all (subst (λ l. Contains l (group_of y)) kept.taken_is among))
