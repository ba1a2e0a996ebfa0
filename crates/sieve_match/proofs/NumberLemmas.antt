-- Numbers at the fronts of texts, and numbers of digits.
use Rattle.std.proofs.Common.{refl, map, ◌≡◌, ℕ, zero, suc, ◌+◌, ◌*◌, ◌-◌, ◌<◌, ◌≤◌, ◌⊎◌, ◌↔◌, Bool, true, false, cond, inl, inr, List, [], ◌∷◌, ◌++◌, length, get_or, Option, Some, None, sym, ap, subst, ◌∙◌, arith, leb, ◌≢◌, IsTrue}
use Rattle.std.specs.List.{AllPass, fold}
use Rattle.std.specs.declared.cmp.Ordering.{Ordering}
use Rattle.std.specs.declared.cmp.Ordering.TheVariants.{Less, Equal, Greater}
use Rattle.std.specs.Ordering.{MatchOrdering, nat_cmp, is_eq}
use Rattle.std.proofs.lemmas.Cmp.{ranked}
use Rattle.std.proofs.lemmas.Bool.{cases_lt, and_parts, leb-true}
use Rattle.octets.specs.Ascii.{is_digit}
use Rattle.octets.specs.Decimal.{with_digit, number_of}
use Rattle.sieve_match.specs.Comparators.{EqualBy}
use Rattle.sieve_match.specs.Sorting.{ComesBefore}
use Rattle.sieve_match.specs.Numbers.{HasNoDigit, StandsForNumber, IsLessNumber, IsBelow, EqualNumbers, digits_of, number_if_any, number_at, ArePlainDigits}
use Rattle.sieve_match.proofs.SortingLemmas.{Lesser, lesser_of}

never : {P : Type 0} → false ≡ true → P
never same = absurd (let no : ⊥ = cc in no)

-- ---- what a text stands for

all_tail : (x : ℕ) (xs : List ℕ) → AllPass is_digit (x ∷ xs) → AllPass is_digit xs
all_tail x xs all = λ k d l. all (suc k) d (omega arith)

all_more : (x : ℕ) (xs : List ℕ) → is_digit x ≡ true → AllPass is_digit xs → AllPass is_digit (x ∷ xs)
all_more x xs first all = λ k d l. at k d l
  where
    at : (k d : ℕ) → k < length (x ∷ xs) → is_digit (get_or (x ∷ xs) k d) ≡ true
    at zero d l = first
    at (suc k) d l = all k d (omega arith)

-- the digits at the front, and what follows them
record Front (text : List ℕ) : Type 0 where
  rest : List ℕ
  spelled : text ≡ digits_of text ++ rest
  all : AllPass is_digit (digits_of text)
  ends : HasNoDigit rest

front_at : (octet : ℕ) (rest : List ℕ) (digit : Bool) → is_digit octet ≡ digit → Front rest → Front (octet ∷ rest)
front_at octet rest true is front =
    let first : digits_of (octet ∷ rest) ≡ octet ∷ digits_of rest = ap (λ b. cond b (octet ∷ digits_of rest) []) is in
    record {
      rest = front.rest;
      spelled = ap (λ l. octet ∷ l) front.spelled ∙ sym (ap (λ l. l ++ front.rest) first);
      all = subst (AllPass is_digit) (sym first) (all_more octet (digits_of rest) is front.all);
      ends = front.ends;
    }
front_at octet rest false is front =
    let none : digits_of (octet ∷ rest) ≡ [] = ap (λ b. cond b (octet ∷ digits_of rest) []) is in
    record {
      rest = octet ∷ rest;
      spelled = sym (ap (λ l. l ++ (octet ∷ rest)) none);
      all = subst (AllPass is_digit) (sym none) (λ k d l. absurd (omega arith));
      ends = is;
    }

front : (text : List ℕ) → Front text
front [] = record { rest = []; spelled = refl; all = λ k d l. absurd (omega arith); ends = tt }
front (octet ∷ rest) = front_at octet rest (is_digit octet) refl (front rest)

pub digits_all : (text : List ℕ) → AllPass is_digit (digits_of text)
digits_all text = (front text).all

none_first : (text : List ℕ) → HasNoDigit text → digits_of text ≡ []
none_first [] none = refl
none_first (octet ∷ rest) none = ap (λ b. cond b (octet ∷ digits_of rest) []) none

-- digits before a text that begins with none
digits_before : (digits rest : List ℕ) → AllPass is_digit digits → HasNoDigit rest → digits_of (digits ++ rest) ≡ digits
digits_before [] rest all ends = none_first rest ends
digits_before (digit ∷ more) rest all ends =
    ap (λ b. cond b (digit ∷ digits_of (more ++ rest)) []) (all 0 0 (omega arith)) ∙ ap (λ l. digit ∷ l) (digits_before more rest (all_tail digit more all) ends)

stands_only : (text : List ℕ) (number : Option ℕ) → StandsForNumber text number → number ≡ number_at text
stands_only text None none = sym (ap number_if_any (none_first text none))
stands_only text (Some number) begins =
    let same : digits_of text ≡ begins.digits = ap digits_of begins.spelled ∙ digits_before begins.digits begins.rest begins.writes.digits begins.ends in
    written begins.digits (begins.writes.present) begins.writes.value ∙ sym (ap number_if_any same)
  where
    written : (digits : List ℕ) → (digits ≡ [] → ⊥) → number_of digits ≡ number → Some number ≡ number_if_any digits
    written [] some value = absurd (some refl)
    written (digit ∷ more) some value = ap Some (sym value)

stands : (text digits : List ℕ) → digits_of text ≡ digits → Front text → StandsForNumber text (number_if_any digits)
stands text [] same f = subst HasNoDigit (sym (f.spelled ∙ ap (λ l. l ++ f.rest) same)) f.ends
stands text (digit ∷ more) same f =
    record {
      digits = digit ∷ more;
      rest = f.rest;
      spelled = f.spelled ∙ ap (λ l. l ++ f.rest) same;
      writes = record { present = λ e. let no : ⊥ = cc in no; digits = subst (AllPass is_digit) same f.all; value = refl };
      ends = f.ends;
    }

pub stands_for : (text : List ℕ) → StandsForNumber text (number_at text)
stands_for text = stands text (digits_of text) refl (front text)

pub stands_iff : (text : List ℕ) (number : Option ℕ) → StandsForNumber text number ↔ (number ≡ number_at text)
stands_iff text number = (stands_only text number, λ same. subst (StandsForNumber text) (sym same) (stands_for text))

-- ---- the order of numbers

pub below_of : (one other : List ℕ) → IsLessNumber (number_at one) (number_at other) → IsBelow one other
below_of one other less = record { one = number_at one; two = number_at other; is = stands_for one; other_is = stands_for other; less = less }

pub less_of : (one other : List ℕ) → IsBelow one other → IsLessNumber (number_at one) (number_at other)
less_of one other h =
    subst (λ n. IsLessNumber n (number_at other)) (stands_only one h.one h.is) (subst (λ n. IsLessNumber h.one n) (stands_only other h.two h.other_is) h.less)

pub equal_of : (one other : List ℕ) → number_at one ≡ number_at other → EqualNumbers one other
equal_of one other same = (number_at one, stands_for one, subst (StandsForNumber other) (sym same) (stands_for other))

pub same_of : (one other : List ℕ) → EqualNumbers one other → number_at one ≡ number_at other
same_of one other (both, is, too) = sym (stands_only one both is) ∙ stands_only other both too

counted_at : (m n : ℕ) → (m < n) ⊎ (n ≤ m) → (n < m) ⊎ (m ≤ n) → IsLessNumber (Some m) (Some n) ⊎ ((Some m ≡ Some n) ⊎ IsLessNumber (Some n) (Some m))
counted_at m n (inl below) _ = inl below
counted_at m n (inr least) (inl above) = inr (inr above)
counted_at m n (inr least) (inr most) = inr (inl (ap Some (omega arith)))

counted : (m n : Option ℕ) → IsLessNumber m n ⊎ ((m ≡ n) ⊎ IsLessNumber n m)
counted None None = inr (inl refl)
counted None (Some n) = inr (inr tt)
counted (Some m) None = inl tt
counted (Some m) (Some n) = counted_at m n (cases_lt m n) (cases_lt n m)

number_chained : (a b c : Option ℕ) → IsLessNumber a b → IsLessNumber b c → IsLessNumber a c
number_chained None b c p q = absurd p
number_chained (Some a) None c p q = absurd q
number_chained (Some a) (Some b) None p q = tt
number_chained (Some a) (Some b) (Some c) p q = omega arith

not_itself : (a : Option ℕ) → IsLessNumber a a → ⊥
not_itself None p = p
not_itself (Some a) p = omega arith

named : (one other : List ℕ) → IsLessNumber (number_at one) (number_at other) ⊎ ((number_at one ≡ number_at other) ⊎ IsLessNumber (number_at other) (number_at one))
    → IsBelow one other ⊎ (EqualNumbers one other ⊎ IsBelow other one)
named one other (inl less) = inl (below_of one other less)
named one other (inr (inl same)) = inr (inl (equal_of one other same))
named one other (inr (inr more)) = inr (inr (below_of other one more))

pub below_total : (one other : List ℕ) → IsBelow one other ⊎ (EqualNumbers one other ⊎ IsBelow other one)
below_total one other = named one other (counted (number_at one) (number_at other))

pub below_chained : (a b c : List ℕ) → IsBelow a b → IsBelow b c → IsBelow a c
below_chained a b c p q = below_of a c (number_chained (number_at a) (number_at b) (number_at c) (less_of a b p) (less_of b c q))

pub below_strict : (one other : List ℕ) → IsBelow one other → EqualNumbers one other → ⊥
below_strict one other p same = not_itself (number_at other) (subst (λ n. IsLessNumber n (number_at other)) (same_of one other same) (less_of one other p))

-- ---- digits

digit_range : (c : ℕ) → is_digit c ≡ true → (48 ≤ c) × (c ≤ 57)
digit_range c is = let parts = and_parts (leb 48 c) (leb c 57) is in (leb-true 48 c parts.0, leb-true c 57 parts.1)

-- a greater number stays greater where no fewer digits are added to it
still_more : (xs ys : List ℕ) (a b : ℕ) → a < b → length xs ≤ length ys → AllPass is_digit xs → AllPass is_digit ys → fold with_digit a xs < fold with_digit b ys
still_more [] [] a b below fits all others = below
still_more (x ∷ xs) [] a b below fits all others = absurd (omega arith)
still_more [] (y ∷ ys) a b below fits all others = still_more [] ys a (b * 10 + (y - 48)) (omega arith) (omega arith) all (all_tail y ys others)
still_more (x ∷ xs) (y ∷ ys) a b below fits all others =
    let range = digit_range x (all 0 0 (omega arith)) in
    still_more xs ys (a * 10 + (x - 48)) (b * 10 + (y - 48)) (omega (arith, range)) (omega arith) (all_tail x xs all) (all_tail y ys others)

-- the longer number is the greater
pub longer : (xs ys : List ℕ) → length xs < length ys → ArePlainDigits xs → ArePlainDigits ys → number_of xs < number_of ys
longer xs [] long one other = absurd (omega arith)
longer xs (y ∷ ys) long one other =
    let first = other.first in
    still_more xs ys 0 (0 * 10 + (y - 48)) (omega arith) (omega arith) one.all (all_tail y ys other.all)

-- of two as long, the one that comes first is the lesser
sooner : (xs ys : List ℕ) (a : ℕ) → length xs ≡ length ys → AllPass is_digit xs → AllPass is_digit ys → Lesser xs ys → fold with_digit a xs < fold with_digit a ys
sooner [] [] a same all others less = absurd less
sooner [] (y ∷ ys) a same all others less = absurd (omega arith)
sooner (x ∷ xs) [] a same all others less = absurd less
sooner (x ∷ xs) (y ∷ ys) a same all others (inl below) =
    let low = digit_range x (all 0 0 (omega arith)) in
    still_more xs ys (a * 10 + (x - 48)) (a * 10 + (y - 48)) (omega (arith, low)) (omega arith) (all_tail x xs all) (all_tail y ys others)
sooner (x ∷ xs) (y ∷ ys) a same all others (inr (is, less)) =
    subst (λ d. fold with_digit (a * 10 + (x - 48)) xs < fold with_digit (a * 10 + (d - 48)) ys) is
    (sooner xs ys (a * 10 + (x - 48)) (omega arith) (all_tail x xs all) (all_tail y ys others) less)

itself : (xs : List ℕ) → xs ≡ map (λ octet. octet) xs
itself [] = refl
itself (x ∷ xs) = ap (λ l. x ∷ l) (itself xs)

pub earlier : (xs ys : List ℕ) → length xs ≡ length ys → ArePlainDigits xs → ArePlainDigits ys → ComesBefore (λ octet. octet) xs ys → number_of xs < number_of ys
earlier xs ys same one other before =
    sooner xs ys 0 same one.all other.all (subst (λ l. Lesser l ys) (sym (itself xs)) (subst (λ l. Lesser (map (λ octet. octet) xs) l) (sym (itself ys)) (lesser_of (λ octet. octet) xs ys before)))

pub equal_digits : (xs ys : List ℕ) → EqualBy (λ octet. octet) xs ys → number_of xs ≡ number_of ys
equal_digits xs ys same = ap number_of (itself xs ∙ same ∙ sym (itself ys))

-- ---- what a comparison tells

-- of numbers of digits: of lengths that differ, and of digits
module _ (one other : List ℕ) (first : ArePlainDigits one) (second : ArePlainDigits other) where
  told_length : (r : Ordering) → length one ≢ length other → MatchOrdering r (length one < length other) (length one ≡ length other) (length other < length one)
      → MatchOrdering r (number_of one < number_of other) (number_of one ≡ number_of other) (number_of other < number_of one)
  told_length Less apart h = longer one other h first second
  told_length Equal apart h = absurd (apart h)
  told_length Greater apart h = longer other one h second first

  pub by_length : (r : Ordering) → length one ≢ length other → r ≡ nat_cmp (length one) (length other)
      → MatchOrdering r (number_of one < number_of other) (number_of one ≡ number_of other) (number_of other < number_of one)
  by_length r apart compared = told_length r apart (ranked (length one) (length other) r compared)

  pub by_digits : (r : Ordering) → length one ≡ length other
      → MatchOrdering r (ComesBefore (λ octet. octet) one other) (EqualBy (λ octet. octet) one other) (ComesBefore (λ octet. octet) other one)
      → MatchOrdering r (number_of one < number_of other) (number_of one ≡ number_of other) (number_of other < number_of one)
  by_digits Less same h = earlier one other same first second h
  by_digits Equal same h = equal_digits one other h
  by_digits Greater same h = earlier other one (sym same) second first h

-- of what two texts stand for
module _ (one other : List ℕ) where
  pub below_infinite : (m : ℕ) → number_at one ≡ Some m → number_at other ≡ None → IsBelow one other
  below_infinite m is none = below_of one other (subst (λ a. IsLessNumber a (number_at other)) (sym is) (subst (λ b. IsLessNumber (Some m) b) (sym none) tt))

  below_numbers : (m n : ℕ) → number_at one ≡ Some m → number_at other ≡ Some n → m < n → IsBelow one other
  below_numbers m n is too less = below_of one other (subst (λ a. IsLessNumber a (number_at other)) (sym is) (subst (λ b. IsLessNumber (Some m) b) (sym too) less))

pub told_numbers : (one other : List ℕ) (m n : ℕ) → number_at one ≡ Some m → number_at other ≡ Some n → (r : Ordering) → MatchOrdering r (m < n) (m ≡ n) (n < m)
    → MatchOrdering r (IsBelow one other) (EqualNumbers one other) (IsBelow other one)
told_numbers one other m n is too Less h = below_numbers one other m n is too h
told_numbers one other m n is too Equal h = equal_of one other (is ∙ ap Some h ∙ sym too)
told_numbers one other m n is too Greater h = below_numbers other one n m too is h

pub told_equal : (one other : List ℕ) (r : Ordering) → MatchOrdering r (IsBelow one other) (EqualNumbers one other) (IsBelow other one) → IsTrue (is_eq r) ↔ EqualNumbers one other
told_equal one other Less h = (λ e. never e, λ same. absurd (below_strict one other h same))
told_equal one other Equal h = (λ e. h, λ same. refl)
told_equal one other Greater h = (λ e. never e, λ same. absurd (below_strict other one h (equal_of other one (sym (same_of one other same)))))
