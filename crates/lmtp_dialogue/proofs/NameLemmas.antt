-- The parts of an address, and the forms of a name.
use Rattle.std.proofs.Common.{◌≡◌, ℕ, zero, suc, ◌+◌, ◌<◌, ◌≤◌, Bool, true, false, List, [], ◌∷◌, ◌++◌, length, take, drop, take-take, get_or, Some, None, inl, inr, refl, sym, ap, ◌∙◌, subst, append-nil, length-append, add-one, eq-eqb, arith}
use Rattle.std.proofs.Math.Seq.{take-append_seam, drop-cons, take-length, drop-length}
use Rattle.std.proofs.Math.ListN.{drop_of_length-le}
use Rattle.std.proofs.lemmas.Bool.{cases_order}
use Rattle.std.proofs.lemmas.List.{take-append-drop, length-take-le, append_cancel_left}
use Rattle.std.proofs.lemmas.List.Elements.{All-append, All-cons, All-head, All-nil, All-tail}
use Rattle.std.specs.Cmp.Lexicographic.{pointwise}
use Rattle.std.specs.List.{All, list_any}
use Rattle.std.specs.Prelude.{◌⊎◌, ◌≢◌, ◌||◌, nat_eq}
use Rattle.octets.specs.Ascii.{lowered}
use Rattle.lmtp_dialogue.specs.Names.{HasAt, SplitsAddress, EndsLocal, unquoted_local, with_form, forms_of, IsForm, AreFormsApart, FormsStand}
use Rattle.lmtp_dialogue.specs.Paths.{AddressStands, AddressStepsTo}
use Rattle.lmtp_dialogue.specs.declared.path.Quoting.{Quoting}
use Rattle.lmtp_dialogue.specs.declared.path.Quoting.TheVariants.{Outside, Inside, Escaped}
use Rattle.lmtp_dialogue.proofs.PathLemmas.{take_next, behind, stands_none}

-- ---- the last `@` among so many octets

-- one stands there outside quotation marks
abbrev pub AtPlace : List ℕ → ℕ → Type 0
AtPlace text j = (get_or text j 0 ≡ 64) × AddressStands Outside (take j text)

-- there is none, or the last one stands there
abbrev pub IsLastAt : List ℕ → ℕ → ℕ → Type 0
IsLastAt text at count =
    ((count ≡ length text) × ((j : ℕ) → j < at → AtPlace text j → ⊥))
    ⊎ ((count < at) × AtPlace text count × ((j : ℕ) → count < j → j < at → AtPlace text j → ⊥))

pub record LocalSoFar (text : List ℕ) (at count : ℕ) (quoting : Quoting) : Type 0 where
  pub forth : (more : List ℕ) → AddressStands quoting more → AddressStands Outside (take at text ++ more)
  pub back : (more : List ℕ) → AddressStands Outside (take at text ++ more) → AddressStands quoting more
  pub last : IsLastAt text at count
  pub within : count ≤ length text

pub local_begin : (text : List ℕ) → LocalSoFar text 0 (length text) Outside
local_begin text = record {
  forth = λ more stands. stands;
  back = λ more stands. stands;
  last = inl (refl, λ j less. absurd (omega arith));
  within = omega arith;
}

outside_there : (text : List ℕ) (at count : ℕ) (quoting : Quoting) → LocalSoFar text at count quoting → AddressStands Outside (take at text) → quoting ≡ Outside
outside_there text at count quoting so_far stands = stands_none quoting (so_far.back [] (subst (AddressStands Outside) (sym (append-nil (take at text))) stands))

here_outside : (text : List ℕ) (at count : ℕ) (quoting : Quoting) → LocalSoFar text at count quoting → quoting ≡ Outside → AddressStands Outside (take at text)
here_outside text at count quoting so_far outside =
    subst (AddressStands Outside) (append-nil (take at text)) (so_far.forth [] (subst (λ q. AddressStands q []) (sym outside) tt))

-- one octet more
last_more : (text : List ℕ) (at count found : ℕ) (quoting : Quoting) → LocalSoFar text at count quoting → EndsLocal count at quoting (get_or text at 0) found
    → IsLastAt text (at + 1) found
last_more text at count found quoting so_far (inl here) =
    let there : AtPlace text at = (here.1, here_outside text at count quoting so_far here.0) in
    inr (omega (arith, here.2), subst (AtPlace text) (sym here.2) there, λ j above below. absurd (omega (arith, here.2)))
last_more text at count found quoting so_far (inr other) =
    let not_here : AtPlace text at → ⊥ = λ is. other.0 (outside_there text at count quoting so_far is.1, is.0) in
    elim so_far.last [
      | inl none ↦ inl (
        other.1 ∙ none.0,
        λ j less is. elim (cases_order j at) [
          | inl same ↦ not_here (subst (AtPlace text) same is)
          | inr (inl below) ↦ none.1 j below is
          | inr (inr above) ↦ absurd (omega arith)
        ],
      )
      | inr some ↦ inr (
        omega (arith, other.1, some.0),
        subst (AtPlace text) (sym other.1) some.1,
        λ j above less is. elim (cases_order j at) [
          | inl same ↦ not_here (subst (AtPlace text) same is)
          | inr (inl below) ↦ some.2 j (omega (arith, other.1)) below is
          | inr (inr beyond) ↦ absurd (omega arith)
        ],
      )
    ]

pub found_within : (text : List ℕ) (at count found : ℕ) (quoting : Quoting) → count ≤ length text → at < length text → EndsLocal count at quoting (get_or text at 0) found → found ≤ length text
found_within text at count found quoting within less (inl here) = omega (arith, here.2)
found_within text at count found quoting within less (inr other) = omega (arith, other.1)

pub local_step : (text : List ℕ) (at count found : ℕ) (from to : Quoting) → LocalSoFar text at count from → at < length text
    → EndsLocal count at from (get_or text at 0) found → AddressStepsTo from (get_or text at 0) (Some to) → LocalSoFar text (at + 1) found to
local_step text at count found from to so_far less ends steps = record {
  forth = λ more stands. subst (AddressStands Outside) (sym (take_next text at more less)) (so_far.forth (get_or text at 0 ∷ more) (steps.0 more stands));
  back = λ more stands. steps.1 more (so_far.back (get_or text at 0 ∷ more) (subst (AddressStands Outside) (take_next text at more less) stands));
  last = last_more text at count found from so_far ends;
  within = found_within text at count found from so_far.within less ends;
}

-- ---- the parts

-- where an `@` stands, by its place
place_of : (front back text : List ℕ) → HasAt text front back → AtPlace text (length front)
place_of front back text has = (
  ap (λ t. get_or t (length front) 0) has.1 ∙ behind front 64 back,
  subst (AddressStands Outside) (sym (ap (take (length front)) has.1 ∙ take-append_seam front (64 ∷ back))) has.0,
)

place_within : (front back text : List ℕ) → HasAt text front back → length front < length text
place_within front back text has = omega (arith, ap (λ (t : List ℕ). length t) has.1, length-append front (64 ∷ back))

all_parts : (text : List ℕ) (count : ℕ) → IsLastAt text (length text) count → SplitsAddress text (take count text) (drop count text)
all_parts text count (inl none) = inl (
  ap (λ n. take n text) none.0 ∙ take-length text,
  ap (λ n. drop n text) none.0 ∙ drop-length text,
  λ front back has. none.1 (length front) (place_within front back text has) (place_of front back text has),
)
all_parts text count (inr some) =
    let domain = drop (count + 1) text in
    let tail : drop count text ≡ 64 ∷ domain =
    drop-cons text count 0 some.0 ∙ (ap (λ o. o ∷ drop (suc count) text) some.1.0 ∙ ap (λ n. 64 ∷ drop n text) (sym (add-one count))) in
    let size : length (take count text) ≡ count = length-take-le count text (omega (arith, some.0)) in
    inr (
      domain,
      tail,
      (some.1.1, sym (take-append-drop count text) ∙ ap (λ t. take count text ++ t) tail),
      λ front back has. elim (cases_order (length front) count) [
        | inl same ↦ omega (arith, same, size)
        | inr (inl below) ↦ omega (arith, below, size)
        | inr (inr above) ↦ absurd (some.2 (length front) above (place_within front back text has) (place_of front back text has))
      ],
    )

-- all octets were looked at
pub parts_at_end : (text : List ℕ) (at count : ℕ) (quoting : Quoting) → LocalSoFar text at count quoting → length text ≤ at → SplitsAddress text (take count text) (drop count text)
parts_at_end text at count quoting so_far all = all_parts text count (elim so_far.last [
  | inl none ↦ inl (none.0, λ j less is. none.1 j (omega (arith, all, less)) is)
  | inr some ↦ elim (cases_order count (length text)) [
    | inl same ↦ absurd (at_most text count some.1.0 (omega (arith, same)))
    | inr (inl below) ↦ inr (below, some.1, λ j above less is. some.2 j above (omega (arith, all, less)) is)
    | inr (inr above) ↦ absurd (at_most text count some.1.0 (omega (arith, above)))
  ]
])
  where
    at_most : (text : List ℕ) (count : ℕ) → get_or text count 0 ≡ 64 → length text ≤ count → ⊥
    at_most [] count is more = absurd (cc is)
    at_most (octet ∷ text) zero is more = absurd (omega arith)
    at_most (octet ∷ text) (suc count) is more = at_most text count is (omega arith)

-- no address goes on with that octet
pub parts_from : (text : List ℕ) (at count found : ℕ) (quoting : Quoting) → LocalSoFar text at count quoting → at < length text
    → EndsLocal count at quoting (get_or text at 0) found → AddressStepsTo quoting (get_or text at 0) None → SplitsAddress text (take found text) (drop found text)
parts_from text at count found quoting so_far less ends steps = all_parts text found (elim (last_more text at count found quoting so_far ends) [
  | inl none ↦ inl (
    none.0,
    λ j below is. elim (cases_order j (at + 1)) [
      | inl same ↦ beyond j (omega (arith, same)) is
      | inr (inl before) ↦ none.1 j before is
      | inr (inr after_it) ↦ beyond j (omega (arith, after_it)) is
    ],
  )
  | inr some ↦ inr (
    omega (arith, some.0, less),
    some.1,
    λ j above below is. elim (cases_order j (at + 1)) [
      | inl same ↦ beyond j (omega (arith, same)) is
      | inr (inl before) ↦ some.2 j above before is
      | inr (inr after_it) ↦ beyond j (omega (arith, after_it)) is
    ],
  )
])
  where
    beyond : (j : ℕ) → at < j → AtPlace text j → ⊥
    beyond j above is =
        let cut : take j text ≡ take (at + 1) text ++ drop (at + 1) (take j text) =
        sym (take-append-drop (at + 1) (take j text)) ∙ ap (λ t. t ++ drop (at + 1) (take j text)) (take-take (at + 1) j text (omega (arith, above))) in
        steps (drop (at + 1) (take j text)) (so_far.back (get_or text at 0 ∷ drop (at + 1) (take j text))
        (subst (AddressStands Outside) (cut ∙ take_next text at (drop (at + 1) (take j text)) less) is.1))

-- ---- a local part without quotation marks

pub none_unquoted : (quoting : Quoting) → unquoted_local quoting [] ≡ []
none_unquoted Outside = refl
none_unquoted Inside = refl
none_unquoted Escaped = refl

pub unquoted_step : (text more local : List ℕ) (at : ℕ) (from to : Quoting) → at < length local → ((rest : List ℕ) → more ++ unquoted_local to rest ≡ text ++ unquoted_local from (get_or local at 0 ∷ rest))
    → text ++ unquoted_local from (drop at local) ≡ unquoted_local Outside local → more ++ unquoted_local to (drop (at + 1) local) ≡ unquoted_local Outside local
unquoted_step text more local at from to less one so_far =
    one (drop (at + 1) local) ∙ (ap (λ t. text ++ unquoted_local from t)
    (ap (λ n. get_or local at 0 ∷ drop n local) (add-one at) ∙ sym (drop-cons local at 0 less)) ∙ so_far)

pub unquoted_end : (text local : List ℕ) (at : ℕ) (quoting : Quoting) → length local ≤ at → text ++ unquoted_local quoting (drop at local) ≡ unquoted_local Outside local → text ≡ unquoted_local Outside local
unquoted_end text local at quoting all so_far =
    sym (append-nil text) ∙ (ap (λ t. text ++ t) (sym (ap (unquoted_local quoting) (drop_of_length-le local all) ∙ none_unquoted quoting)) ∙ so_far)

-- ---- the forms of a name

same_test : (a b : List ℕ) → pointwise nat_eq a b ≡ false → a ≡ b → ⊥
same_test a b other same = absurd (cc (sym (itself a) ∙ (ap (pointwise nat_eq a) same ∙ other)))
  where
    itself : (x : List ℕ) → pointwise nat_eq x x ≡ true
    itself [] = refl
    itself (o ∷ x) = rw (eq-eqb o o refl) (itself x)

-- where none of them is that form, each is another
each_other : (forms : List (List ℕ)) (form : List ℕ) → list_any (λ there. pointwise nat_eq there form) forms ≡ false → All (λ there. form ≢ there) forms
each_other [] form none = All-nil (λ there. form ≢ there)
each_other (there ∷ forms) form none =
    let parts = or_parts (pointwise nat_eq there form) (list_any (λ t. pointwise nat_eq t form) forms) none in
    All-cons (λ t. form ≢ t) there forms (λ same. same_test there form parts.0 (sym same)) (each_other forms form parts.1)
  where
    or_parts : (a b : Bool) → (a || b) ≡ false → (a ≡ false) × (b ≡ false)
    or_parts true b is = absurd (cc is)
    or_parts false b is = (refl, is)

apart_more : (forms : List (List ℕ)) (form : List ℕ) → AreFormsApart forms → All (λ there. form ≢ there) forms → AreFormsApart (forms ++ form ∷ [])
apart_more [] form apart other = (All-nil (λ o. o ≢ form), tt)
apart_more (there ∷ forms) form apart other = (
  All-append (λ o. o ≢ there) forms (form ∷ []) apart.0 (All-cons (λ o. o ≢ there) form [] (All-head (λ t. form ≢ t) there forms other) (All-nil (λ o. o ≢ there))),
  apart_more forms form apart.1 (All-tail (λ t. form ≢ t) there forms other),
)

apart_with : (forms : List (List ℕ)) (form : List ℕ) → AreFormsApart forms → AreFormsApart (with_form forms form)
apart_with forms form apart = by_test (list_any (λ there. pointwise nat_eq there form) forms) refl
  where
    by_test : (test : Bool) → list_any (λ there. pointwise nat_eq there form) forms ≡ test → AreFormsApart (with_form forms form)
    by_test true is = rw is apart
    by_test false is = rw is (apart_more forms form apart (each_other forms form is))

each_with : (P : List ℕ → Type 0) (forms : List (List ℕ)) (form : List ℕ) → All P forms → P form → All P (with_form forms form)
each_with P forms form each is = by_test (list_any (λ there. pointwise nat_eq there form) forms) refl
  where
    by_test : (test : Bool) → list_any (λ there. pointwise nat_eq there form) forms ≡ test → All P (with_form forms form)
    by_test true same = rw same each
    by_test false same = rw same (All-append P forms (form ∷ []) each (All-cons P form [] is (All-nil P)))

each_form : (name bare : List ℕ) → All (IsForm name bare) (forms_of name bare)
each_form name bare =
    let P = IsForm name bare in
    each_with P _ (lowered bare) (each_with P _ bare (each_with P (name ∷ []) (lowered name) (All-cons P name [] (inl refl) (All-nil P)) (inr (inl refl))) (inr (inr (inl refl))))
    (inr (inr (inr refl)))

apart_forms : (name bare : List ℕ) → AreFormsApart (forms_of name bare)
apart_forms name bare = apart_with _ (lowered bare) (apart_with _ bare (apart_with (name ∷ []) (lowered name) (All-nil (λ o. o ≢ name), tt)))

-- ---- the parts of an address are its only ones

one_parts : (address a b x y : List ℕ) → SplitsAddress address a x → SplitsAddress address b y → (a ≡ b) × (x ≡ y)
one_parts address a b x y (inl one) (inl two) = (one.0 ∙ sym two.0, one.1 ∙ sym two.1)
one_parts address a b x y (inl one) (inr two) = absurd (one.2 b two.0 two.2)
one_parts address a b x y (inr one) (inl two) = absurd (two.2 a one.0 one.2)
one_parts address a b x y (inr one) (inr two) =
    let size : length a ≡ length b = omega (arith, one.3 b two.0 two.2, two.3 a one.0 one.2) in
    let front : a ≡ b = sym (take-append_seam a (64 ∷ one.0)) ∙ (ap (λ n. take n (a ++ 64 ∷ one.0)) size ∙ (ap (take (length b)) (sym one.2.1 ∙ two.2.1) ∙ take-append_seam b (64 ∷ two.0))) in
    let back : 64 ∷ one.0 ≡ 64 ∷ two.0 =
    append_cancel_left a (64 ∷ one.0) (64 ∷ two.0) (sym one.2.1 ∙ (two.2.1 ∙ ap (λ t. t ++ 64 ∷ two.0) (sym front))) in
    (front, one.1 ∙ (back ∙ sym two.1))

pub forms_stand : FormsStand
forms_stand = record { parts = one_parts; each = each_form; apart = apart_forms }
