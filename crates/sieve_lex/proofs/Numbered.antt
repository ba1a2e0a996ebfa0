-- Numbers.
use Rattle.std.proofs.Common.{◌≡◌, ◌⊎◌, ℕ, ◌+◌, ◌*◌, ◌<◌, ◌≤◌, ◌^◌, true, false, Some, List, [], ◌∷◌, ◌++◌, length, take, drop, get_or, refl, ap, sym, ◌∙◌, subst, inl, inr, arith, append_assoc, append-nil, length-append, length-drop}
use Rattle.std.specs.List.{list_all, prefix_len}
use Rattle.std.proofs.lemmas.List.{take_at, drop_at, length-take-le}
use Rattle.std.proofs.lemmas.List.Sums.{prefix_len-le-length}
use Rattle.std.proofs.lemmas.Bool.Decides.{nat_tests}
use Rattle.octets.specs.Ascii.{is_digit}
use Rattle.octets.specs.Decimal.{number_of}
use Rattle.octets.proofs.Lists.{some_is}
use Rattle.sieve_lex.specs.declared.front.Front.{Front}
use Rattle.sieve_lex.specs.declared.token.Content.{Content}
use Rattle.sieve_lex.specs.declared.token.Content.TheVariants.{Number}
use Rattle.sieve_lex.specs.declared.class.Class.TheVariants.{Digit}
use Rattle.sieve_lex.specs.Class.{octet_class_of}
use Rattle.sieve_lex.specs.Shape.{IsTokenShape, IsNumberText, factor_of}
use Rattle.sieve_lex.specs.Digits.{letter_len}
use Rattle.sieve_lex.specs.Front.{IsFront}
use Rattle.sieve_lex.proofs.Prefixes.{one_more, at_most, all_prefix, prefix_all, prefix_len-passed, front_of, take_sum}
use Rattle.sieve_lex.proofs.Opening.{Opens, front_opened, shape_at, class_digit}
use Rattle.sieve_lex.proofs.Opening.Opens.{Named, Worded, Numbered, Tagged, Quoted, Marked}
use Rattle.sieve_lex.proofs.Best.{IsBest, IsFound, best_found, best_too_large, found_at}

-- no multiplier is a digit
pub letter_no_digit : (c f : ℕ) → factor_of (c ∷ []) ≡ Some f → is_digit c ≡ false
letter_no_digit c f h = grind (arith, nat_tests)

-- where a digit stands first, only a number does
only_numbered : (b : ℕ) (v : Content) → is_digit b ≡ true → Opens b v → (n : ℕ) × (v ≡ Number n)
only_numbered b v h o =
    let digit : octet_class_of b ≡ Digit = class_digit b h in
    elim o [
      | Named name s c ve ↦ absurd (cc)
      | Worded value s c ve ↦ absurd (cc)
      | Numbered n d c ve ↦ (n, ve)
      | Tagged name e c ve ↦ absurd (cc)
      | Quoted value e c ve ↦ absurd (cc)
      | Marked m c ve ↦ absurd (cc)
    ]

-- the longest number at a front: its digits, its multiplier, and how long it is
abbrev digits_at : List ℕ → List ℕ
digits_at o = take (prefix_len is_digit o) o

abbrev after_digits : List ℕ → List ℕ
after_digits o = drop (prefix_len is_digit o) o

abbrev number_len : List ℕ → ℕ
number_len o = prefix_len is_digit o + letter_len (after_digits o)

-- a number with a multiplier is as long as it can be
record IsWhole (octets digits : List ℕ) (c m : ℕ) : Type 0 where
  len : prefix_len is_digit octets ≡ length digits
  digits_are : digits_at octets ≡ digits
  rest : after_digits octets ≡ c ∷ drop m octets
  whole : m ≡ length digits + 1

whole_number : (octets digits : List ℕ) (c f m : ℕ) → m ≤ length octets → take m octets ≡ digits ++ c ∷ [] → list_all is_digit digits ≡ true → factor_of (c ∷ []) ≡ Some f → IsWhole octets digits c m
whole_number octets digits c f m within e all h =
    let no : is_digit c ≡ false = letter_no_digit c f h in
    let parts : octets ≡ digits ++ (c ∷ drop m octets) = front_of octets _ m e ∙ append_assoc digits (c ∷ []) (drop m octets) in
    let none : prefix_len is_digit (c ∷ drop m octets) ≡ 0 = rw no refl in
    let len : prefix_len is_digit octets ≡ length digits = ap (prefix_len is_digit) parts ∙ prefix_len-passed is_digit digits (c ∷ drop m octets) all ∙ (rw none (omega arith)) in
    record {
      len = len;
      digits_are = ap (λ i. take i octets) len ∙ ap (take (length digits)) parts ∙ take_at digits (c ∷ drop m octets) (length digits) refl;
      rest = ap (λ i. drop i octets) len ∙ ap (drop (length digits)) parts ∙ drop_at digits (c ∷ drop m octets) (length digits) refl;
      whole = omega (arith, length-take-le m octets within, ap length e, length-append digits (c ∷ []));
    }

letter_one : (c f : ℕ) (rest : List ℕ) → factor_of (c ∷ []) ≡ Some f → letter_len (c ∷ rest) ≡ 1
letter_one c f rest h = rw h refl

-- a number at the front is no longer
number_bound : (octets : List ℕ) (factor m value : ℕ) → factor_of (take (letter_len (after_digits octets)) (after_digits octets)) ≡ Some factor → m ≤ length octets
    → (digits letter : List ℕ) (f : ℕ) → take m octets ≡ digits ++ letter → list_all is_digit digits ≡ true → factor_of letter ≡ Some f → value ≡ number_of digits * f
    → (m < number_len octets) ⊎ ((m ≡ number_len octets) × (value ≡ number_of (digits_at octets) * factor))
number_bound octets factor m value hf within digits [] f e all scaled valued =
    let same : take m octets ≡ digits = e ∙ append-nil digits in
    let passed : list_all is_digit (take m octets) ≡ true = ap (list_all is_digit) same ∙ all in
    let bound : m ≤ prefix_len is_digit octets = all_prefix is_digit octets m within passed in
    at_most _ _ _ (omega arith) (λ whole.
    let none : letter_len (after_digits octets) ≡ 0 = omega arith in
    let count : m ≡ prefix_len is_digit octets = omega arith in
    let one : Some 1 ≡ Some factor = sym (ap (λ i. factor_of (take i (after_digits octets))) none) ∙ hf in
    let ones : f ≡ factor = some_is f factor (sym scaled ∙ one) in
    let parts : digits ≡ digits_at octets = sym same ∙ ap (λ i. take i octets) count in
    valued ∙ (λ i. number_of (parts i) * ones i))
number_bound octets factor m value hf within digits (c ∷ []) f e all scaled valued =
    let w : IsWhole octets digits c m = whole_number octets digits c f m within e all scaled in
    let one : letter_len (after_digits octets) ≡ 1 = ap letter_len w.rest ∙ letter_one c f (drop m octets) scaled in
    let read : factor_of (take (letter_len (after_digits octets)) (after_digits octets)) ≡ factor_of (c ∷ []) = (λ i. factor_of (take (one i) (w.rest i))) in
    let same : f ≡ factor = some_is f factor (sym scaled ∙ sym read ∙ hf) in
    let len : prefix_len is_digit octets ≡ length digits = w.len in
    let whole : m ≡ length digits + 1 = w.whole in
    inr (omega arith, valued ∙ (λ i. number_of (sym w.digits_are i) * same i))
number_bound octets factor m value hf within digits (c ∷ (d ∷ more)) f e all scaled valued = absurd (cc)

some_digits : (octets : List ℕ) → is_digit (get_or octets 0 0) ≡ true → digits_at octets ≡ [] → ⊥
some_digits [] h e = cc
some_digits (b ∷ more) h e = let s : b ∷ take (prefix_len is_digit more) more ≡ [] = rw (h, one_more (prefix_len is_digit more)) at e in cc

-- where a digit stands first the spelling is a number's
number_spelled : (octets : List ℕ) (v : Content) (m : ℕ) → is_digit (get_or octets 0 0) ≡ true → IsTokenShape v (take m octets) (drop m octets) → (n : ℕ) × ((v ≡ Number n) × IsNumberText (take m octets) n)
number_spelled [] v m h s = absurd (cc)
number_spelled (b ∷ more) v m h s =
    let number : (n : ℕ) × (v ≡ Number n) = only_numbered b v h (front_opened b more v m _ s).1 in
    (number.0, (number.1, shape_at _ _ _ _ number.1 s))

-- the longest spelling where a digit stands first
number_best : (octets : List ℕ) (factor : ℕ) → is_digit (get_or octets 0 0) ≡ true → factor_of (take (letter_len (after_digits octets)) (after_digits octets)) ≡ Some factor → letter_len (after_digits octets) ≤ length (after_digits octets)
    → IsBest octets (Number (number_of (digits_at octets) * factor)) (number_len octets)
number_best octets factor h hf w = record {
  within = omega (arith, length-drop (prefix_len is_digit octets) octets, prefix_len-le-length is_digit octets);
  shape = record {
    digits = digits_at octets;
    letter = take (letter_len (after_digits octets)) (after_digits octets);
    factor = factor;
    spelled = take_sum (prefix_len is_digit octets) (letter_len (after_digits octets)) octets;
    present = some_digits octets h;
    decimal = prefix_all is_digit octets;
    scaled = hf;
    valued = refl;
  };
  best = λ v m within s.
      let t : (n : ℕ) × ((v ≡ Number n) × IsNumberText (take m octets) n) = number_spelled octets v m h s in
      let n : IsNumberText (take m octets) t.0 = t.1.1 in
      elim (number_bound octets factor m t.0 hf within n.digits n.letter n.factor n.spelled n.decimal n.scaled n.valued) [
        | inl less ↦ inl less
        | inr same ↦ inr (same.0, t.1.0 ∙ ap Number same.1)
      ];
}

-- the parts that the reader has are those
number_best_at : (octets digits rest : List ℕ) (n letters factor : ℕ) → is_digit (get_or octets 0 0) ≡ true → n ≡ prefix_len is_digit octets → digits ≡ take n octets → rest ≡ drop n octets
    → letters ≡ letter_len rest → letters ≤ length rest → factor_of (take letters rest) ≡ Some factor → IsBest octets (Number (number_of digits * factor)) (n + letters)
number_best_at octets digits rest n letters factor h ne de re le w hf =
    let digits_are : digits_at octets ≡ digits = ap (λ i. take i octets) (sym ne) ∙ sym de in
    let rest_is : after_digits octets ≡ rest = ap (λ i. drop i octets) (sym ne) ∙ sym re in
    let letters_are : letter_len (after_digits octets) ≡ letters = ap letter_len rest_is ∙ sym le in
    let read : factor_of (take (letter_len (after_digits octets)) (after_digits octets)) ≡ Some factor = (λ i. factor_of (take (letters_are i) (rest_is i))) ∙ hf in
    let within : letter_len (after_digits octets) ≤ length (after_digits octets) = omega (arith, ap length rest_is) in
    let b : IsBest octets (Number (number_of (digits_at octets) * factor)) (number_len octets) = number_best octets factor h read within in
    let P : ℕ → Type 0 = λ i. IsBest octets (Number (number_of (digits_at octets) * factor)) i in
    let Q : List ℕ → Type 0 = λ x. IsBest octets (Number (number_of x * factor)) (n + letters) in
    subst Q digits_are (subst P (λ i. sym ne i + letters_are i) b)

-- what the reader of numbers finds
pub number_found : (octets digits rest : List ℕ) (n letters factor amount : ℕ) → is_digit (get_or octets 0 0) ≡ true → n ≡ prefix_len is_digit octets → digits ≡ take n octets → rest ≡ drop n octets → length digits ≡ n
    → letters ≡ letter_len rest → letters ≤ length rest → factor_of (take letters rest) ≡ Some factor → amount ≡ number_of digits * factor → amount < 2 ^ 63
    → IsFound octets (record { content = Number amount; len = length digits + letters })
number_found octets digits rest n letters factor amount h ne de re count le w hf ae small =
    found_at octets _ _ _ _ (ap Number (sym ae)) (ap (λ i. i + letters) (sym count))
    (best_found octets (record { content = Number (number_of digits * factor); len = n + letters }) (number_best_at octets digits rest n letters factor h ne de re le w hf) (omega arith) (λ t. t))

-- and where the number is too large
pub number_none : (octets digits rest : List ℕ) (n letters factor : ℕ) → is_digit (get_or octets 0 0) ≡ true → n ≡ prefix_len is_digit octets → digits ≡ take n octets → rest ≡ drop n octets
    → letters ≡ letter_len rest → letters ≤ length rest → factor_of (take letters rest) ≡ Some factor → 2 ^ 63 ≤ number_of digits * factor
    → (g : Front) → IsFront octets g → ⊥
number_none octets digits rest n letters factor h ne de re le w hf large =
    best_too_large octets (Number (number_of digits * factor)) (n + letters) (number_best_at octets digits rest n letters factor h ne de re le w hf) (λ small. omega arith)
