-- What adding and removing flags keeps, and what is read of what was written.
use Rattle.std.proofs.Common.{◌≡◌, ◌<◌, ◌≤◌, ◌+◌, ℕ, Bool, true, false, cond, not, ◌&&◌, ◌||◌, List, [], ◌∷◌, ◌++◌, length, filter, fold, nat_eq, nat_lt, nat_le, ◌==◌, get_or, refl, sym, ap, subst, ◌∙◌, arith}
use Rattle.std.specs.Cmp.{IsEquivalence}
use Rattle.std.specs.Cmp.Lexicographic.{on_texts_equal, pointwise, bytes_decides}
use Rattle.std.specs.List.{list_any, list_all, All, IsDistinct, AllByRecursion}
use Rattle.std.proofs.lemmas.Bool.Decides.{nat_tests}
use Rattle.std.proofs.lemmas.List.{length-append, append_assoc, append-nil, get_or_append_left}
use Rattle.std.proofs.Math.Seq.{get_or-append_seam}
use Rattle.std.proofs.lemmas.List.Elements.{All-nil, All-cons, All-head, All-tail, All-push, All-filter, All-weaker, All-from_get_or}
use Rattle.std.proofs.lemmas.List.Folds.{list_any-append, list_any_none}
use Rattle.std.proofs.lemmas.List.Sums.{length-filter, count_by-le-length, AllPass-from_list_all}
use Rattle.std.proofs.lemmas.Map.Keys.{IsDistinct-push, apart_from_distinct}
use Rattle.std.proofs.lemmas.Map.Views.{any-filter_same}
use Rattle.std.specs.Char.{to_ascii_lowercase}
use Rattle.octets.specs.Ascii.{lowered, is_blank}
use Rattle.mail_flags.specs.Names.{are_same, is_flag, is_of_atoms, is_keyword, is_system, max_flag_len}
use Rattle.mail_flags.specs.Flags.{AreFlags, max_flags, has, with_one, without_one, with_named, without_named, between_blanks, with_all_named, without_all_named, named_flags, flags_text}
use Rattle.mail_flags.specs.declared.system.SystemFlag.{SystemFlag}
use Rattle.mail_flags.specs.declared.system.SystemFlag.TheVariants.{Draft, Flagged, Answered, Seen, Deleted}
use Rattle.mail_flags.specs.System.{all_system, flag_name_of}
use Rattle.mail_flags.proofs.TextLemmas.{read_again}

or_true : (b : Bool) → (b || true) ≡ true
or_true true = refl
or_true false = refl

pub same_equiv : IsEquivalence are_same
same_equiv = on_texts_equal lowered

-- whichever side is asked about
turned : (name : List ℕ) (flags : List (List ℕ)) → list_any (are_same name) flags ≡ has flags name
turned name [] = refl
turned name (flag ∷ flags) = λ i. same_equiv.symm name flag i || turned name flags i

pub no_flags : AreFlags []
unfolding IsDistinct
no_flags = record { names = All-nil (λ name. is_flag name ≡ true); distinct = tt; few = omega arith }

-- all three parts of the test
parts : (room flag there : Bool) → (room && flag && not there) ≡ true → (room ≡ true) × (flag ≡ true) × (there ≡ false)
parts true true false is = (refl, refl, refl)
parts true true true is = absurd cc
parts true false there is = absurd cc
parts false flag there is = absurd cc

one_more : (flags : List (List ℕ)) (name : List ℕ) → AreFlags flags → AreFlags (with_one flags name)
one_more flags name so = step (nat_lt (length flags) max_flags && is_flag name && not (has flags name)) refl
  where
    step : (takes : Bool) → (nat_lt (length flags) max_flags && is_flag name && not (has flags name)) ≡ takes → AreFlags (cond takes (flags ++ name ∷ []) flags)
    step false is = so
    step true is =
        let (room, flag, there) = parts (nat_lt (length flags) max_flags) (is_flag name) (has flags name) is in
        record {
          names = All-push (λ n. is_flag n ≡ true) flags name so.names flag;
          distinct = IsDistinct-push same_equiv flags name so.distinct (turned name flags ∙ there);
          few = subst (λ n. n ≤ max_flags) (sym (length-append flags (name ∷ []))) (grind (arith, nat_tests));
        }

-- what is apart from all of a list is so from a part of it
apart_kept : (p : List ℕ → Bool) (name : List ℕ) (flags : List (List ℕ)) → AllByRecursion (λ other. are_same name other ≡ false) flags → AllByRecursion (λ other. are_same name other ≡ false) (filter p flags)
apart_kept p name [] apart = apart
apart_kept p name (flag ∷ flags) apart =
    let more = apart_kept p name flags apart.1 in
    elim (p flag) as (λ kept. AllByRecursion (λ other. are_same name other ≡ false) (cond kept (flag ∷ filter p flags) (filter p flags))) [
      | true ↦ (apart.0, more)
      | false ↦ more
    ]

distinct_kept : (p : List ℕ → Bool) (flags : List (List ℕ)) → IsDistinct are_same flags → IsDistinct are_same (filter p flags)
unfolding IsDistinct
distinct_kept p [] distinct = tt
distinct_kept p (flag ∷ flags) distinct =
    let more = distinct_kept p flags distinct.1 in
    elim (p flag) as (λ kept. IsDistinct are_same (cond kept (flag ∷ filter p flags) (filter p flags))) [
      | true ↦ (apart_kept p flag flags distinct.0, more)
      | false ↦ more
    ]

one_less : (flags : List (List ℕ)) (name : List ℕ) → AreFlags flags → AreFlags (without_one flags name)
one_less flags name so = record {
  names = All-filter (λ there. not (are_same there name)) (λ n. is_flag n ≡ true) flags so.names;
  distinct = distinct_kept (λ there. not (are_same there name)) flags so.distinct;
  few = omega (arith, length-filter (λ there. not (are_same there name)) flags, count_by-le-length (λ there. not (are_same there name)) flags, so.few);
}

-- what each step keeps, all steps keep
kept_in_turn : (step : List (List ℕ) → List ℕ → List (List ℕ)) → ((flags : List (List ℕ)) (x : List ℕ) → AreFlags flags → AreFlags (step flags x)) → (xs : List (List ℕ)) (flags : List (List ℕ)) → AreFlags flags → AreFlags (fold step flags xs)
kept_in_turn step keeps [] flags so = so
kept_in_turn step keeps (x ∷ xs) flags so = kept_in_turn step keeps xs (step flags x) (keeps flags x so)

pub added_flags : (flags texts : List (List ℕ)) → AreFlags flags → AreFlags (with_all_named flags texts)
added_flags flags texts = kept_in_turn with_named (λ f text. kept_in_turn with_one one_more (between_blanks text) f) texts flags

pub removed_flags : (flags texts : List (List ℕ)) → AreFlags flags → AreFlags (without_all_named flags texts)
removed_flags flags texts = kept_in_turn without_named (λ f text. kept_in_turn without_one one_less (between_blanks text) f) texts flags

-- ---- one more, one less

-- where the last of them is one, it is one of them
last_there : (flags : List (List ℕ)) (name : List ℕ) → has (flags ++ name ∷ []) name ≡ true
last_there flags name =
    list_any-append (λ there. are_same there name) flags (name ∷ [])
    ∙ ap (λ last. has flags name || (last || false)) (same_equiv.refl name) ∙ or_true (has flags name)

pub more_there : (flags : List (List ℕ)) (name : List ℕ) → is_flag name ≡ true → length flags < max_flags → has (with_one flags name) name ≡ true
more_there flags name flag within = step (nat_lt (length flags) max_flags) (is_flag name) (has flags name) (grind (arith, nat_tests)) flag refl
  where
    step : (room flag there : Bool) → room ≡ true → flag ≡ true → has flags name ≡ there → has (cond (room && flag && not there) (flags ++ name ∷ []) flags) name ≡ true
    step true true true r f is = is
    step true true false r f is = last_there flags name
    step true false there r f is = absurd cc
    step false flag there r f is = absurd cc

pub less_gone : (flags : List (List ℕ)) (name : List ℕ) → has (without_one flags name) name ≡ false
less_gone flags name = any-filter_same (λ there. are_same there name) (λ there. not (are_same there name)) false (λ there same. ap not same) flags

pub less_others : (flags : List (List ℕ)) (name other : List ℕ) → are_same other name ≡ false → has (without_one flags name) other ≡ has flags other
less_others flags name other apart =
    any-filter_same (λ there. are_same there other) (λ there. not (are_same there name)) true
    (λ there same. ap not (same_equiv.congr there other name same ∙ same_equiv.symm other name ∙ sym (same_equiv.symm other name) ∙ apart)) flags

-- ---- what is read of what was written

no_blank : (octet : ℕ) → is_of_atoms octet ≡ true → is_blank octet ≡ false
no_blank octet is = grind (arith, nat_tests)

lower_blank : (octet : ℕ) → is_blank (to_ascii_lowercase octet) ≡ false → is_blank octet ≡ false
lower_blank octet is = grind (arith, nat_tests)

-- a text has no blank where it has none in lower case
plain_by : (name : List ℕ) → All (λ octet. is_blank octet ≡ false) (lowered name) → All (λ octet. is_blank octet ≡ false) name
plain_by [] plain = All-nil (λ octet. is_blank octet ≡ false)
plain_by (octet ∷ rest) plain =
    All-cons (λ o. is_blank o ≡ false) octet rest
    (lower_blank octet (All-head (λ o. is_blank o ≡ false) (to_ascii_lowercase octet) (lowered rest) plain))
    (plain_by rest (All-tail (λ o. is_blank o ≡ false) (to_ascii_lowercase octet) (lowered rest) plain))

-- no name of a system flag has one
plain_system : (system : SystemFlag) → list_all (λ octet. not (is_blank octet)) (lowered (flag_name_of system)) ≡ true
plain_system Draft = refl
plain_system Flagged = refl
plain_system Answered = refl
plain_system Seen = refl
plain_system Deleted = refl

unblank : (b : Bool) → not b ≡ true → b ≡ false
unblank true is = absurd cc
unblank false is = refl

same_octets : (one other : List ℕ) → pointwise nat_eq one other ≡ true → one ≡ other
same_octets one other is = (bytes_decides one other).0 is

plain_one : (system : SystemFlag) (name : List ℕ) → are_same (flag_name_of system) name ≡ true → All (λ octet. is_blank octet ≡ false) name
plain_one system name same =
    plain_by name (subst (All (λ octet. is_blank octet ≡ false)) (same_octets (lowered (flag_name_of system)) (lowered name) same)
    (All-weaker (λ octet. not (is_blank octet) ≡ true) (λ octet. is_blank octet ≡ false) (λ octet. unblank (is_blank octet)) (lowered (flag_name_of system))
    (AllPass-from_list_all (λ octet. not (is_blank octet)) (lowered (flag_name_of system)) (plain_system system))))

plain_some : (name : List ℕ) (systems : List SystemFlag) → list_any (λ system. are_same (flag_name_of system) name) systems ≡ true → All (λ octet. is_blank octet ≡ false) name
plain_some name [] some = absurd cc
plain_some name (system ∷ systems) some =
    let others = plain_some name systems in
    let step : (same : Bool) → are_same (flag_name_of system) name ≡ same → (same || list_any (λ s. are_same (flag_name_of s) name) systems) ≡ true → All (λ octet. is_blank octet ≡ false) name =
    λ same. elim same as (λ b. are_same (flag_name_of system) name ≡ b → (b || list_any (λ s. are_same (flag_name_of s) name) systems) ≡ true → All (λ octet. is_blank octet ≡ false) name) [
      | true ↦ λ is any. plain_one system name is
      | false ↦ λ is any. others any
    ] in
    step (are_same (flag_name_of system) name) refl some

plain_keyword : (name : List ℕ) → is_keyword name ≡ true → All (λ octet. is_blank octet ≡ false) name
plain_keyword name is =
    All-weaker (λ octet. is_of_atoms octet ≡ true) (λ octet. is_blank octet ≡ false) no_blank name
    (AllPass-from_list_all is_of_atoms name (second_of (not (length name == 0)) (list_all is_of_atoms name) is))
  where
    second_of : (one other : Bool) → (one && other) ≡ true → other ≡ true
    second_of true other so = so
    second_of false other so = absurd cc

-- the name of a flag has no blank
pub plain_flag : (name : List ℕ) → is_flag name ≡ true → All (λ octet. is_blank octet ≡ false) name
plain_flag name flag = step (nat_le (length name) max_flag_len) (is_keyword name) refl flag
  where
    step : (short keyword : Bool) → is_keyword name ≡ keyword → (short && (keyword || is_system name)) ≡ true → All (λ octet. is_blank octet ≡ false) name
    step true true is so = plain_keyword name is
    step true false is so = plain_some name all_system so
    step false keyword is so = absurd cc

-- one flag after the other is added
pub added_in_turn : (front more : List (List ℕ)) → AreFlags (front ++ more) → fold with_one front more ≡ front ++ more
added_in_turn front [] so = sym (append-nil front)
added_in_turn front (name ∷ more) so =
    let next : with_one front name ≡ front ++ name ∷ [] = joins front name more so in
    let whole : front ++ name ∷ more ≡ front ++ name ∷ [] ++ more = sym (append_assoc front (name ∷ []) more) in
    ap (λ flags. fold with_one flags more) next ∙ added_in_turn (front ++ name ∷ []) more (subst AreFlags whole so) ∙ sym whole
  where
    apart : (front : List (List ℕ)) (name : List ℕ) (more : List (List ℕ)) → AreFlags (front ++ name ∷ more) → has front name ≡ false
    apart front name more so =
        list_any_none (λ there. are_same there name) front (All-from_get_or (λ there. are_same there name ≡ false) front [] (λ i within.
        let there = apart_from_distinct are_same (front ++ name ∷ more) i (length front) [] so.distinct within (subst (λ n. length front < n) (sym (length-append front (name ∷ more))) (omega arith)) in
        subst (λ last. are_same (get_or front i []) last ≡ false) (get_or-append_seam front name more [])
        (subst (λ first. are_same first (get_or (front ++ name ∷ more) (length front) []) ≡ false) (get_or_append_left front (name ∷ more) [] i within) there)))

    named_flags : (front : List (List ℕ)) (name : List ℕ) (more : List (List ℕ)) → AreFlags (front ++ name ∷ more) → is_flag name ≡ true
    named_flags front name more so =
        subst (λ n. is_flag n ≡ true) (get_or-append_seam front name more [])
        (so.names (length front) [] (subst (λ n. length front < n) (sym (length-append front (name ∷ more))) (omega arith)))

    room : (front : List (List ℕ)) (name : List ℕ) (more : List (List ℕ)) → AreFlags (front ++ name ∷ more) → nat_lt (length front) max_flags ≡ true
    room front name more so =
        let few : length front + length (name ∷ more) ≤ max_flags = subst (λ n. n ≤ max_flags) (length-append front (name ∷ more)) so.few in
        grind (arith, nat_tests)

    joins : (front : List (List ℕ)) (name : List ℕ) (more : List (List ℕ)) → AreFlags (front ++ name ∷ more) → with_one front name ≡ front ++ name ∷ []
    joins front name more so = taken (nat_lt (length front) max_flags) (is_flag name) (has front name) (room front name more so) (named_flags front name more so) (apart front name more so)
      where
        taken : (a b c : Bool) → a ≡ true → b ≡ true → c ≡ false → cond (a && b && not c) (front ++ name ∷ []) front ≡ front ++ name ∷ []
        taken a b c x y z = λ i. cond (x i && y i && not (z i)) (front ++ name ∷ []) front

pub read_as_written : (flags : List (List ℕ)) → AreFlags flags → named_flags (flags_text flags) ≡ flags
read_as_written [] so = refl
read_as_written (first ∷ more) so =
    ap (fold with_one []) (read_again first more (All-weaker (λ n. is_flag n ≡ true) (All (λ octet. is_blank octet ≡ false)) plain_flag (first ∷ more) so.names))
    ∙ added_in_turn [] (first ∷ more) so
