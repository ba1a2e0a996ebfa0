-- IPv6 addresses, octet by octet.
use Rattle.std.proofs.Common.{◌≡◌, ◌⊎◌, ◌↔◌, ℕ, suc, ◌+◌, ◌-◌, ◌<◌, ◌≤◌, ◌==◌, ◌&&◌, ◌||◌, not, Bool, true, false, cond, IsTrue, List, [], ◌∷◌, ◌++◌, length, take, drop, Option, Some, None, IfSome, IfNone, inl, inr, refl, sym, ap, ◌∙◌, subst, append-nil, append_assoc, arith}
use Rattle.std.proofs.lemmas.List.{take-append-drop}
use Rattle.std.proofs.lemmas.List.Folds.{list_all-append}
use Rattle.std.specs.List.{list_all, slice_split, onto_first}
use Rattle.smtp_dialogue.specs.Addresses.{AreGroupsAndIpv4, EndsInIpv4, IsCompressed, IsCompressedIpv4, IsIpv6, Fit, CutsDoubled, CutsLast, is_colon, is_dot, is_filled, is_group, is_ipv4, is_ipv4_number, between_colons, groups_of, some_groups_of, begins_colon, begins_doubled, before_doubled}
use Rattle.smtp_dialogue.specs.Mailboxes.{HasNoMark}
use Rattle.smtp_dialogue.proofs.MailboxLemmas.{both, same_octet, all_other, head_of, tail_of}
use Rattle.smtp_dialogue.proofs.SplitLemmas.{all_by, each_by, split_all}
use Rattle.std.specs.Prelude.{nat_le, nat_eq}
use Rattle.octets.specs.Ascii.{is_digit}
use Rattle.octets.specs.Decimal.{number_of}

-- ---- groups

filled_groups : (parts : List (List ℕ)) → list_all is_group parts ≡ true → list_all is_filled parts ≡ true
filled_groups [] each = refl
filled_groups ([] ∷ parts) each = absurd (cc each)
filled_groups ((octet ∷ part) ∷ parts) each =
    let here = both (is_group (octet ∷ part)) (list_all is_group parts) each in
    filled_groups parts here.1

behind_filled : (parts : List (List ℕ)) → list_all is_filled parts ≡ true → list_all is_filled (drop 1 parts) ≡ true
behind_filled [] each = refl
behind_filled (part ∷ parts) each = (both (is_filled part) (list_all is_filled parts) each).1

are_groups_by : (text : List ℕ) (n : ℕ) (are : Bool) → list_all is_group (between_colons text) ≡ are → groups_of text ≡ Some n → list_all is_group (between_colons text) ≡ true
are_groups_by text n true test is = test
are_groups_by text n false test is = let no : None ≡ Some n = rw test at is in absurd (cc no)

pub are_groups : (text : List ℕ) (n : ℕ) → groups_of text ≡ Some n → list_all is_group (between_colons text) ≡ true
are_groups text n is = are_groups_by text n (list_all is_group (between_colons text)) refl is

pub undoubled : (text : List ℕ) (n : ℕ) → some_groups_of text ≡ Some n → list_all is_filled (drop 1 (between_colons text)) ≡ true
undoubled [] n is = refl
undoubled (octet ∷ text) n is =
    let each = are_groups (octet ∷ text) n is in
    behind_filled (between_colons (octet ∷ text)) (filled_groups (between_colons (octet ∷ text)) each)

pub groups_doubled : (text front rest : List ℕ) (n : ℕ) → text ≡ front ++ 58 ∷ 58 ∷ rest → some_groups_of front ≡ Some n → CutsDoubled text front rest
groups_doubled text front rest n written ahead = record { written = written; first = undoubled front n ahead }

-- ---- the first `::`

behind_onto : (octet : ℕ) (parts : List (List ℕ)) → list_all is_filled (drop 1 (onto_first octet parts)) ≡ list_all is_filled (drop 1 parts)
behind_onto octet [] = refl
behind_onto octet (part ∷ parts) = refl

-- where all that stands between colons is filled no colon stands in front
filled_front : (text more : List ℕ) → list_all is_filled (between_colons text) ≡ true → begins_colon (text ++ more) ≡ false
filled_front [] more each = absurd (cc each)
filled_front (octet ∷ text) more each = by (is_colon octet) refl
  where
    by : (colon : Bool) → is_colon octet ≡ colon → is_colon octet ≡ false
    by false test = test
    by true test = let here : false ≡ true = rw test at each in absurd (cc here)

front_by : (octet : ℕ) (text rest : List ℕ) (colon : Bool) → is_colon octet ≡ colon → list_all is_filled (drop 1 (between_colons (octet ∷ text))) ≡ true
    → (list_all is_filled (drop 1 (between_colons text)) ≡ true → before_doubled (text ++ 58 ∷ 58 ∷ rest) ≡ length text) → before_doubled (octet ∷ (text ++ 58 ∷ 58 ∷ rest)) ≡ suc (length text)
front_by octet text rest false test each hence =
    let later : list_all is_filled (drop 1 (between_colons text)) ≡ true = sym (behind_onto octet (between_colons text)) ∙ (rw test at each) in
    let here : begins_doubled (octet ∷ (text ++ 58 ∷ 58 ∷ rest)) ≡ false = rw test refl in
    let same = hence later in
    rw here (omega (arith, same))
front_by octet text rest true test each hence =
    let all : list_all is_filled (between_colons text) ≡ true = rw test at each in
    let here : begins_doubled (octet ∷ (text ++ 58 ∷ 58 ∷ rest)) ≡ false = rw (test, filled_front text (58 ∷ 58 ∷ rest) all) refl in
    let same = hence (behind_filled (between_colons text) all) in
    rw here (omega (arith, same))

front_of : (text : List ℕ) → list_all is_filled (drop 1 (between_colons text)) ≡ true → (rest : List ℕ) → before_doubled (text ++ 58 ∷ 58 ∷ rest) ≡ length text
front_of [] each rest = refl
front_of (octet ∷ text) each rest = front_by octet text rest (is_colon octet) refl each (λ later. front_of text later rest)

take_front : (front rest : List ℕ) → take (length front) (front ++ rest) ≡ front
take_front [] rest = refl
take_front (octet ∷ front) rest = ap (λ t. octet ∷ t) (take_front front rest)

drop_front : (front rest : List ℕ) → drop (length front) (front ++ rest) ≡ rest
drop_front [] rest = refl
drop_front (octet ∷ front) rest = drop_front front rest

-- it is cut there in one way
pub at_doubled : (text front rest : List ℕ) (count : ℕ) → count ≡ before_doubled text → CutsDoubled text front rest
    → (take count text ≡ front) × (drop count text ≡ 58 ∷ 58 ∷ rest)
at_doubled text front rest count value cut =
    let size : count ≡ length front = value ∙ (ap before_doubled cut.written ∙ front_of front cut.first rest) in (
      ap (λ n. take n text) size ∙ (ap (take (length front)) cut.written ∙ take_front front (58 ∷ 58 ∷ rest)),
      ap (λ n. drop n text) size ∙ (ap (drop (length front)) cut.written ∙ drop_front front (58 ∷ 58 ∷ rest)),
    )

-- ---- the last such octet

abbrev other : ℕ → ℕ → Bool
other mark octet = not (octet == mark)

abbrev is_ipv4_octet : ℕ → Bool
is_ipv4_octet octet = is_digit octet || is_dot octet

number_text : (part : List ℕ) → is_ipv4_number part ≡ true → list_all is_ipv4_octet part ≡ true
number_text part is =
    let front = both (is_filled part && nat_le (length part) 3 && list_all is_digit part) (nat_le (number_of part) 255) is in
    all_by is_digit is_ipv4_octet digit_octet part (both (is_filled part && nat_le (length part) 3) (list_all is_digit part) front.0).1
  where
    digit_octet : (octet : ℕ) → is_digit octet ≡ true → is_ipv4_octet octet ≡ true
    digit_octet octet is = rw is refl

-- an IPv4 address has no colon
no_colon : (text : List ℕ) → is_ipv4 text ≡ true → list_all (other 58) text ≡ true
no_colon text is =
    let parts = (both (length (slice_split is_dot text) == 4) (list_all is_ipv4_number (slice_split is_dot text)) is).1 in
    all_other is_ipv4_octet 58 refl text (split_all is_dot is_ipv4_octet dot_octet text (each_by is_ipv4_octet is_ipv4_number number_text (slice_split is_dot text) parts))
  where
    or_true : (a : Bool) → (a || true) ≡ true
    or_true true = refl
    or_true false = refl

    dot_octet : (octet : ℕ) → is_dot octet ≡ true → is_ipv4_octet octet ≡ true
    dot_octet octet is = rw is (or_true (is_digit octet))

-- a text is cut at the last such octet in one way
pub no_mark : (mark : ℕ) (front rest : List ℕ) → list_all (other mark) (front ++ mark ∷ rest) ≡ true → ⊥
no_mark mark front rest each =
    let parts = both (list_all (other mark) front) (list_all (other mark) (mark ∷ rest)) (sym (list_all-append (other mark) front (mark ∷ rest)) ∙ each) in
    let here = both (other mark mark) (list_all (other mark) rest) parts.1 in
    absurd (let self : (mark == mark) ≡ true = grind arith in cc (sym here.0 ∙ ap not self))

pub one_last : (mark : ℕ) (a c b d : List ℕ) → a ++ mark ∷ b ≡ c ++ mark ∷ d → list_all (other mark) b ≡ true → list_all (other mark) d ≡ true → (a ≡ c) × (b ≡ d)
one_last mark [] [] b d same one two = (refl, tail_of mark mark b d same)
one_last mark [] (y ∷ c) b d same one two =
    absurd (no_mark mark c d (ap (list_all (other mark)) (sym (tail_of mark y b (c ++ mark ∷ d) same)) ∙ one))
one_last mark (x ∷ a) [] b d same one two =
    absurd (no_mark mark a b (ap (list_all (other mark)) (tail_of x mark (a ++ mark ∷ b) d same) ∙ two))
one_last mark (x ∷ a) (y ∷ c) b d same one two =
    let later = one_last mark a c b d (tail_of x y (a ++ mark ∷ b) (c ++ mark ∷ d) same) one two in
    (ap (λ o. o ∷ a) (head_of x y (a ++ mark ∷ b) (c ++ mark ∷ d) same) ∙ ap (λ t. y ∷ t) later.0, later.1)

-- groups and an IPv4 address are cut at the last colon
pub at_last : (text front rest : List ℕ) (n : ℕ) → CutsLast 58 text front rest → AreGroupsAndIpv4 text n → (is_ipv4 rest ≡ true) × (groups_of front ≡ Some n)
at_last text front rest n cut are =
    let same = one_last 58 are.groups front are.address rest (sym are.written ∙ cut.written) (no_colon are.address are.is) cut.last in
    (ap is_ipv4 (sym same.1) ∙ are.is, ap groups_of (sym same.0) ∙ are.counted)

-- nor is an IPv4 address groups and an IPv4 address
pub not_both : (text : List ℕ) (n : ℕ) → is_ipv4 text ≡ true → AreGroupsAndIpv4 text n → ⊥
not_both text n is are = no_mark 58 are.groups are.address (ap (list_all (other 58)) (sym are.written) ∙ no_colon text is)

-- ---- counts

some_same : (a b : ℕ) → Some a ≡ Some b → a ≡ b
some_same a b same = grind (arith, same)

-- ---- the functions

-- what stands behind where `::` was looked for
pub doubled_by : (text front behind rest : List ℕ) (count : ℕ) → count ≡ before_doubled text → take count text ≡ front → drop count text ≡ behind → CutsDoubled text front rest → behind ≡ 58 ∷ 58 ∷ rest
doubled_by text front behind rest count value ahead after cut = sym after ∙ (at_doubled text front rest count value cut).1

pub found_doubled : (text front behind next rest : List ℕ) (count : ℕ) → front ≡ take count text → behind ≡ drop count text → behind ≡ 58 ∷ next → next ≡ 58 ∷ rest → text ≡ front ++ 58 ∷ 58 ∷ rest
found_doubled text front behind next rest count ahead after one two =
    sym (take-append-drop count text) ∙ (ap (λ t. t ++ drop count text) (sym ahead) ∙ ap (λ t. front ++ t) (sym after ∙ (one ∙ ap (λ t. 58 ∷ t) two)))

pub one_doubled : (text front behind next rest : List ℕ) (count : ℕ) → count ≡ before_doubled text → front ≡ take count text → behind ≡ drop count text → behind ≡ 58 ∷ next → next ≡ 58 ∷ rest
    → (other rest2 : List ℕ) → CutsDoubled text other rest2 → (other ≡ front) × (rest2 ≡ rest)
one_doubled text front behind next rest count value ahead after one two other rest2 cut =
    let at = at_doubled text other rest2 count value cut in
    let same : 58 ∷ 58 ∷ rest2 ≡ 58 ∷ 58 ∷ rest = sym at.1 ∙ (sym after ∙ (one ∙ ap (λ t. 58 ∷ t) two)) in
    (sym at.0 ∙ sym ahead, tail_of 58 58 rest2 rest (tail_of 58 58 (58 ∷ rest2) (58 ∷ rest) same))

pub no_first : (text behind : List ℕ) (count : ℕ) → count ≡ before_doubled text → behind ≡ drop count text → ((rest : List ℕ) → behind ≡ 58 ∷ rest → ⊥) → (front rest : List ℕ) → CutsDoubled text front rest → ⊥
no_first text behind count value after none front rest cut = none (58 ∷ rest) (after ∙ (at_doubled text front rest count value cut).1)

pub no_second : (text behind next : List ℕ) (count : ℕ) → count ≡ before_doubled text → behind ≡ drop count text → behind ≡ 58 ∷ next → ((rest : List ℕ) → next ≡ 58 ∷ rest → ⊥) → (front rest : List ℕ) → CutsDoubled text front rest → ⊥
no_second text behind next count value after one none front rest cut =
    none rest (tail_of 58 58 next (58 ∷ rest) (sym one ∙ (after ∙ (at_doubled text front rest count value cut).1)))

-- both forms with `::`
pub compressed_by : (text front rest : List ℕ) → text ≡ front ++ 58 ∷ 58 ∷ rest → Fit (some_groups_of front) (some_groups_of rest) 6 → IsCompressed text
compressed_by text front rest written fit = record { front = front; rest = rest; before = fit.first; behind = fit.second; written = written; ahead = fit.ahead; after = fit.after; most = fit.within }

pub fit_compressed : (text front rest : List ℕ) → ((other rest2 : List ℕ) → CutsDoubled text other rest2 → (other ≡ front) × (rest2 ≡ rest)) → IsCompressed text → Fit (some_groups_of front) (some_groups_of rest) 6
fit_compressed text front rest one is =
    let same = one is.front is.rest (groups_doubled text is.front is.rest is.before is.written is.ahead) in
    record { first = is.before; second = is.behind; ahead = ap some_groups_of (sym same.0) ∙ is.ahead; after = ap some_groups_of (sym same.1) ∙ is.after; within = is.most }

pub mixed_by : (text front rest : List ℕ) (behind : Option ℕ) → text ≡ front ++ 58 ∷ 58 ∷ rest → ((count : ℕ) → (behind ≡ Some count) ↔ EndsInIpv4 rest count) → Fit (some_groups_of front) behind 4 → IsCompressedIpv4 text
mixed_by text front rest behind written ends fit = record { front = front; rest = rest; before = fit.first; behind = fit.second; written = written; ahead = fit.ahead; after = (ends fit.second).0 fit.after; most = fit.within }

pub fit_mixed : (text front rest : List ℕ) (behind : Option ℕ) → ((other rest2 : List ℕ) → CutsDoubled text other rest2 → (other ≡ front) × (rest2 ≡ rest)) → ((count : ℕ) → (behind ≡ Some count) ↔ EndsInIpv4 rest count)
    → IsCompressedIpv4 text → Fit (some_groups_of front) behind 4
fit_mixed text front rest behind one ends is =
    let same = one is.front is.rest (groups_doubled text is.front is.rest is.before is.written is.ahead) in
    record { first = is.before; second = is.behind; ahead = ap some_groups_of (sym same.0) ∙ is.ahead; after = (ends is.behind).1 (subst (λ t. EndsInIpv4 t is.behind) same.1 is.after); within = is.most }

pub no_compressed : (text : List ℕ) → ((front rest : List ℕ) → CutsDoubled text front rest → ⊥) → IsCompressed text → ⊥
no_compressed text none is = none is.front is.rest (groups_doubled text is.front is.rest is.before is.written is.ahead)

pub no_mixed : (text : List ℕ) → ((front rest : List ℕ) → CutsDoubled text front rest → ⊥) → IsCompressedIpv4 text → ⊥
no_mixed text none is = none is.front is.rest (groups_doubled text is.front is.rest is.before is.written is.ahead)

-- where two counts fit
pub fit_yes : (m n most : ℕ) → m + n ≤ most → Fit (Some m) (Some n) most
fit_yes m n most within = record { first = m; second = n; ahead = refl; after = refl; within = within }

pub fit_within : (m n most : ℕ) → Fit (Some m) (Some n) most → m + n ≤ most
fit_within m n most fit =
    let one = some_same m fit.first fit.ahead in
    let two = some_same n fit.second fit.after in
    let within = fit.within in
    omega (arith, one, two, within)

pub groups_by_last : (text front rest : List ℕ) (groups : Option ℕ) → CutsLast 58 text front rest → groups ≡ groups_of front → is_ipv4 rest ≡ true → (count : ℕ) → (groups ≡ Some count) ↔ AreGroupsAndIpv4 text count
groups_by_last text front rest groups cut value is count = (
  λ some. record { groups = front; address = rest; written = cut.written; counted = sym value ∙ some; is = is },
  λ are. value ∙ (at_last text front rest count cut are).1,
)

pub none_by_last : (text front rest : List ℕ) → CutsLast 58 text front rest → is_ipv4 rest ≡ false → (count : ℕ) → (None ≡ Some count) ↔ AreGroupsAndIpv4 text count
none_by_last text front rest cut is count = (λ some. absurd (cc some), λ are. let no = sym (at_last text front rest count cut are).0 ∙ is in absurd (cc no))

pub alone_or_not : (text : List ℕ) → is_ipv4 text ≡ true → (count : ℕ) → (Some 0 ≡ Some count) ↔ EndsInIpv4 text count
alone_or_not text is count = (λ some. inl (is, sym (some_same 0 count some)), by_kind)
  where
    by_kind : EndsInIpv4 text count → Some 0 ≡ Some count
    by_kind (inl alone) = ap Some (sym alone.1)
    by_kind (inr are) = absurd (not_both text count is are)

pub not_alone : (text : List ℕ) (groups : Option ℕ) → is_ipv4 text ≡ false → ((count : ℕ) → (groups ≡ Some count) ↔ AreGroupsAndIpv4 text count) → (count : ℕ) → (groups ≡ Some count) ↔ EndsInIpv4 text count
not_alone text groups is are count = (λ some. inr ((are count).0 some), by_kind)
  where
    by_kind : EndsInIpv4 text count → groups ≡ Some count
    by_kind (inl alone) = let no = sym alone.0 ∙ is in absurd (cc no)
    by_kind (inr both) = (are count).1 both

pub six_by : (text : List ℕ) (groups : Option ℕ) (found : ℕ) → groups ≡ Some found → ((count : ℕ) → (groups ≡ Some count) ↔ AreGroupsAndIpv4 text count)
    → (IsTrue (nat_eq found 6) → AreGroupsAndIpv4 text 6) × (AreGroupsAndIpv4 text 6 → IsTrue (nat_eq found 6))
six_by text groups found is are = (
  λ six. (are 6).0 (is ∙ ap Some (same_octet found 6 six)),
  λ both. let same : found ≡ 6 = some_same found 6 (sym is ∙ (are 6).1 both) in rw same refl,
)

pub never_six : (text : List ℕ) (groups : Option ℕ) → groups ≡ None → ((count : ℕ) → (groups ≡ Some count) ↔ AreGroupsAndIpv4 text count)
    → (IsTrue false → AreGroupsAndIpv4 text 6) × (AreGroupsAndIpv4 text 6 → IsTrue false)
never_six text groups is are = (λ no. absurd (cc no), λ both. let no = sym is ∙ (are 6).1 both in absurd (cc no))

pub none_told : {A P : Type 0} (o : Option A) → P → IfNone o P
none_told None is = is
none_told (Some x) is = tt
