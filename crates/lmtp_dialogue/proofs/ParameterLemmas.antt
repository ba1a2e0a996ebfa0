-- The parameters of MAIL.
use Rattle.std.proofs.Common.{◌≡◌, ℕ, suc, min, not, ◌&&◌, Bool, ◌==◌, ◌-◌, ◌<◌, ◌^◌, true, false, List, [], ◌∷◌, ◌++◌, length, take, drop, map, Some, None, inl, inr, refl, sym, ap, ◌∙◌, subst, codes, arith}
use Rattle.std.proofs.lemmas.List.{take-append-drop, take_rest}
use Rattle.std.specs.Prelude.{Option}
use Rattle.std.specs.Char.{to_ascii_lowercase}
use Rattle.std.proofs.lemmas.Bool.{cases_order}
use Rattle.std.proofs.lemmas.List.Sums.{AllPass-from_list_all, list_all-from_AllPass}
use Rattle.std.specs.List.{list_all, prefix_len}
use Rattle.octets.specs.Ascii.{is_digit}
use Rattle.octets.specs.Decimal.{Writes, number_of}
use Rattle.lmtp_dialogue.specs.Commands.{IsSameWord, is_unspaced}
use Rattle.lmtp_dialogue.specs.Arguments.{IsAfterWord, max_size, is_size_text, IsSizeValue, IsParameter, Separated, or_earlier, AreParameters, NoParameters}
use Rattle.lmtp_dialogue.proofs.ArgumentLemmas.{one_after}
use Rattle.lmtp_dialogue.proofs.FrontLemmas.{and_second, Stops, all_front, stops_behind, front_is, behind_is}
use Rattle.lmtp_dialogue.proofs.TextLemmas.{first_of, others_of, same_others, not_none}

-- ---- one parameter

abbrev lowered : List ℕ → List ℕ
lowered text = map to_ascii_lowercase text

lowered-append : (xs ys : List ℕ) → lowered (xs ++ ys) ≡ lowered xs ++ lowered ys
lowered-append [] ys = refl
lowered-append (x ∷ xs) ys = ap (λ t. to_ascii_lowercase x ∷ t) (lowered-append xs ys)

sized : (text digits : List ℕ) → IsAfterWord (codes "SIZE=") text digits → lowered text ≡ codes "size=" ++ lowered digits
sized text digits is = ap lowered is.written ∙ (lowered-append is.front digits ∙ ap (λ f. f ++ lowered digits) is.is)

not_first : (text digits word : List ℕ) (octet : ℕ) → IsAfterWord (codes "SIZE=") text digits → IsSameWord word text → first_of (lowered word) ≡ octet → (octet ≡ 115 → ⊥) → ⊥
not_first text digits word octet is other at apart = apart (sym at ∙ (ap first_of (sym other) ∙ ap first_of (sized text digits is)))

not_second : (text digits word : List ℕ) (octet : ℕ) → IsAfterWord (codes "SIZE=") text digits → IsSameWord word text → first_of (others_of (lowered word)) ≡ octet
    → (octet ≡ 105 → ⊥) → ⊥
not_second text digits word octet is other at apart =
    apart (sym at ∙ (ap (λ t. first_of (others_of t)) (sym other) ∙ ap (λ t. first_of (others_of t)) (sized text digits is)))

-- a size is none of the others
pub not_sized : (text digits : List ℕ) → IsAfterWord (codes "SIZE=") text digits → IsParameter text None → ⊥
not_sized text digits is other = elim other [
  | inl seven ↦ not_first text digits (codes "BODY=7BIT") 98 is seven refl (λ same. absurd (omega (arith, same)))
  | inr (inl eight) ↦ not_first text digits (codes "BODY=8BITMIME") 98 is eight refl (λ same. absurd (omega (arith, same)))
  | inr (inr wide) ↦ not_second text digits (codes "SMTPUTF8") 109 is wide refl (λ same. absurd (omega (arith, same)))
]

pub one_parameter : (text : List ℕ) (a b : Option ℕ) → IsParameter text a → IsParameter text b → a ≡ b
one_parameter text None None first second = refl
one_parameter text None (Some b) first second = absurd (not_sized text second.0 second.1 first)
one_parameter text (Some a) None first second = absurd (not_sized text first.0 first.1 second)
one_parameter text (Some a) (Some b) first second =
    let same : first.0 ≡ second.0 = one_after (codes "SIZE=") text first.0 second.0 first.1 second.1 in
    let number : first.2.0 ≡ second.2.0 = sym first.2.1.value ∙ (ap number_of same ∙ second.2.1.value) in
    ap Some (first.2.2 ∙ (ap (λ n. min n max_size) number ∙ sym second.2.2))

-- no size where its digits write none
pub no_size : (text digits : List ℕ) → IsAfterWord (codes "SIZE=") text digits → ((n : ℕ) → IsSizeValue digits n → ⊥) → (size : Option ℕ) → IsParameter text size → ⊥
no_size text digits is none None other = not_sized text digits is other
no_size text digits is none (Some n) other = none n (subst (λ d. IsSizeValue d n) (one_after (codes "SIZE=") text other.0 digits other.1 is) other.2)

-- ---- a size

number_written : (digits : List ℕ) → is_size_text digits ≡ true → Writes digits (number_of digits)
number_written [] is = absurd (cc is)
number_written (digit ∷ digits) is = record {
  present = not_none digit digits;
  digits = AllPass-from_list_all is_digit (digit ∷ digits) (and_second (not (length (digit ∷ digits) == 0)) (list_all is_digit (digit ∷ digits)) is);
  value = refl;
}

written_number : (digits : List ℕ) (n : ℕ) → Writes digits n → is_size_text digits ≡ true
written_number [] n writes = absurd (writes.present refl)
written_number (digit ∷ digits) n writes = both (some (length digits)) (list_all-from_AllPass is_digit (digit ∷ digits) writes.digits)
  where
    some : (n : ℕ) → not (suc n == 0) ≡ true
    some n = grind (arith)

    both : {a b : Bool} → a ≡ true → b ≡ true → (a && b) ≡ true
    both {a} {b} is_a is_b = rw (is_a, is_b) refl

pub size_greatest : (digits : List ℕ) → ((n : ℕ) → n < 2 ^ 64 → Writes digits n → ⊥) → is_size_text digits ≡ true → IsSizeValue digits max_size
size_greatest digits none is =
    let writes = number_written digits is in (
      number_of digits,
      writes,
      elim (cases_order (number_of digits) (2 ^ 64)) [
        | inl same ↦ omega (arith, same)
        | inr (inl less) ↦ absurd (none (number_of digits) less writes)
        | inr (inr more) ↦ omega (arith, more)
      ],
    )

pub size_none : (digits : List ℕ) → is_size_text digits ≡ false → (size : ℕ) → IsSizeValue digits size → ⊥
size_none digits other size is = absurd (cc (sym (written_number digits is.0 is.1) ∙ other))

-- ---- parameters in turn

-- what follows from some place on is what follows from the front
pub record SoFar (rest left : List ℕ) (size : Option ℕ) : Type 0 where
  pub forth : (texts : List (List ℕ)) (end : Option ℕ) → AreParameters texts left size end → (all : List (List ℕ)) × AreParameters all rest None end
  pub back : (texts : List (List ℕ)) (end : Option ℕ) → AreParameters texts rest None end → (all : List (List ℕ)) × AreParameters all left size end

pub begin : (rest : List ℕ) → SoFar rest rest None
begin rest = record { forth = λ texts end are. (texts, are); back = λ texts end are. (texts, are) }

is_space : (octet : ℕ) → is_unspaced octet ≡ false → octet ≡ 32
is_space octet stops = grind (arith)

separated : (text : List ℕ) → Stops is_unspaced text → Separated text
separated [] stops = inl refl
separated (octet ∷ text) stops = inr (text, ap (λ o. o ∷ text) (is_space octet stops))

pub stopped : (text : List ℕ) → Separated text → Stops is_unspaced text
stopped text is = elim is [
  | inl none ↦ subst (Stops is_unspaced) (sym none) tt
  | inr some ↦ subst (Stops is_unspaced) (sym some.1) refl
]

abbrev pub word_in : List ℕ → List ℕ
word_in more = take (prefix_len is_unspaced more) more

abbrev pub tail_in : List ℕ → List ℕ
tail_in more = drop (prefix_len is_unspaced more) more

-- the first of those that stand there
record First (more : List ℕ) (size : Option ℕ) (texts : List (List ℕ)) (end : Option ℕ) : Type 0 where
  here : Option ℕ
  is : IsParameter (word_in more) here
  others : List (List ℕ)
  are : AreParameters others (tail_in more) (or_earlier size here) end

first_in : (left more : List ℕ) (size : Option ℕ) (texts : List (List ℕ)) (end : Option ℕ) → left ≡ 32 ∷ more → AreParameters texts left size end → First more size texts end
first_in left more size [] end begins are = absurd (not_none 32 more (sym begins ∙ are.0))
first_in left more size (text ∷ texts) end begins are =
    let same : more ≡ text ++ are.0 = same_others 32 32 more (text ++ are.0) (sym begins ∙ are.2) in
    let stops = stopped are.0 are.4 in
    let word : word_in more ≡ text = ap word_in same ∙ front_is is_unspaced text are.0 are.3 stops in
    let tail : tail_in more ≡ are.0 = ap tail_in same ∙ behind_is is_unspaced text are.0 are.3 stops in
    record {
      here = are.1;
      is = subst (λ t. IsParameter t are.1) (sym word) are.5;
      others = texts;
      are = subst (λ t. AreParameters texts t (or_earlier size are.1) end) (sym tail) are.6;
    }

pub step : (rest left more : List ℕ) (size here : Option ℕ) → SoFar rest left size → left ≡ 32 ∷ more → IsParameter (word_in more) here
    → SoFar rest (tail_in more) (or_earlier size here)
step rest left more size here so_far begins is = record {
  forth = λ texts end are.
      so_far.forth (word_in more ∷ texts) end (
        tail_in more,
        here,
        begins ∙ ap (λ t. 32 ∷ t) (sym (take-append-drop (prefix_len is_unspaced more) more)),
        all_front is_unspaced more,
        separated (tail_in more) (stops_behind is_unspaced more),
        is,
        are,
      );
  back = λ texts end are.
      let there = so_far.back texts end are in
      let first = first_in left more size there.0 end begins there.1 in
      (first.others, subst (λ h. AreParameters first.others (tail_in more) (or_earlier size h) end) (one_parameter (word_in more) first.here here first.is is) first.are);
}

pub at_end : (rest left : List ℕ) (size : Option ℕ) → SoFar rest left size → left ≡ [] → (texts : List (List ℕ)) × AreParameters texts rest None size
at_end rest left size so_far none = so_far.forth [] size (none, refl)

pub no_space : (rest left : List ℕ) (size : Option ℕ) → SoFar rest left size → (left ≡ [] → ⊥) → ((more : List ℕ) → left ≡ 32 ∷ more → ⊥) → NoParameters rest None
no_space rest left size so_far some none = λ texts end are. neither (so_far.back texts end are).0 end (so_far.back texts end are).1
  where
    neither : (texts : List (List ℕ)) (end : Option ℕ) → AreParameters texts left size end → ⊥
    neither [] end are = some are.0
    neither (text ∷ texts) end are = none (text ++ are.0) are.2

pub no_parameter : (rest left more : List ℕ) (size : Option ℕ) → SoFar rest left size → left ≡ 32 ∷ more → ((here : Option ℕ) → IsParameter (word_in more) here → ⊥)
    → NoParameters rest None
no_parameter rest left more size so_far begins none = λ texts end are.
    let there = so_far.back texts end are in
    let first = first_in left more size there.0 end begins there.1 in
    none first.here first.is

-- ---- as the code has them

pub step_at : (rest left more : List ℕ) (count : ℕ) (size here end : Option ℕ) → SoFar rest left size → left ≡ 32 ∷ more → count ≡ prefix_len is_unspaced more
    → IsParameter (take count more) here → end ≡ or_earlier size here → SoFar rest (take (length more - count) (drop count more)) end
step_at rest left more count size here end so_far begins same is ends =
    let word : IsParameter (word_in more) here = subst (λ n. IsParameter (take n more) here) same is in
    let tail : take (length more - count) (drop count more) ≡ tail_in more = take_rest more count ∙ ap (λ n. drop n more) same in
    subst (λ t. SoFar rest t end) (sym tail) (subst (SoFar rest (tail_in more)) (sym ends) (step rest left more size here so_far begins word))

pub no_parameter_at : (rest left more : List ℕ) (count : ℕ) (size : Option ℕ) → SoFar rest left size → left ≡ 32 ∷ more → count ≡ prefix_len is_unspaced more
    → ((here : Option ℕ) → IsParameter (take count more) here → ⊥) → NoParameters rest None
no_parameter_at rest left more count size so_far begins same none =
    no_parameter rest left more size so_far begins (λ here is. none here (subst (λ n. IsParameter (take n more) here) (sym same) is))

pub empty_by : (text : List ℕ) → true ≡ (length text == 0) → text ≡ []
empty_by [] same = refl
empty_by (octet ∷ text) same = absurd (grind (arith, same))

pub some_by : (text : List ℕ) → false ≡ (length text == 0) → text ≡ [] → ⊥
some_by text same none = absurd (cc (same ∙ ap (λ t. length t == 0) none))
