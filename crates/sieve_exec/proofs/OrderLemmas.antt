-- Orders of values and keys, and the relations that they are in.
use Rattle.std.proofs.Common.{◌≡◌, ◌<◌, inl, inr, ℕ, List, [], ◌∷◌, map, refl, sym, ap, subst, ◌∙◌, Option, Some, None}
use Rattle.std.specs.Bool.{Decides}
use Rattle.std.specs.Cmp.Lexicographic.{slice_cmp}
use Rattle.std.specs.declared.cmp.Ordering.{Ordering}
use Rattle.std.specs.declared.cmp.Ordering.TheVariants.{Less, Equal, Greater}
use Rattle.std.specs.Ordering.{MatchOrdering, nat_cmp, ordering_then}
use Rattle.std.proofs.lemmas.Cmp.{ranked}
use Rattle.sieve_match.specs.Comparators.{EqualBy}
use Rattle.sieve_match.specs.Sorting.{ComesBefore}
use Rattle.sieve_match.specs.Numbers.{IsLessNumber, IsBelow, EqualNumbers, number_at}
use Rattle.sieve_match.proofs.SortingLemmas.{Lesser, before_of, before_chained, before_strict}
use Rattle.sieve_match.proofs.NumberLemmas.{below_of, equal_of, below_chained, below_strict}
use Rattle.sieve_syntax.specs.declared.extension.relational.Relation.{Relation}
use Rattle.sieve_syntax.specs.declared.extension.relational.Relation.TheVariants as R
use Rattle.sieve_exec.specs.Extension.Relational.{Relates, order_by, relates}
use Rattle.sieve_exec.specs.Extension.Numeric.{number_order}

both_same : (a b : ℕ) (x y : List ℕ) → a ≡ b → x ≡ y → a ∷ x ≡ b ∷ y
both_same a b x y one more = cc

step : (x y : ℕ) (xs ys : List ℕ) (r s : Ordering) → MatchOrdering r (x < y) (x ≡ y) (y < x) → MatchOrdering s (Lesser xs ys) (xs ≡ ys) (Lesser ys xs)
    → MatchOrdering (ordering_then r s) (Lesser (x ∷ xs) (y ∷ ys)) (x ∷ xs ≡ y ∷ ys) (Lesser (y ∷ ys) (x ∷ xs))
step x y xs ys Less s first rest = inl first
step x y xs ys Equal Less first rest = inr (first, rest)
step x y xs ys Equal Equal first rest = both_same x y xs ys first rest
step x y xs ys Equal Greater first rest = inr (sym first, rest)
step x y xs ys Greater s first rest = inl first

lists_ranked : (xs ys : List ℕ) → MatchOrdering (slice_cmp nat_cmp xs ys) (Lesser xs ys) (xs ≡ ys) (Lesser ys xs)
lists_ranked [] [] = refl
lists_ranked [] (y ∷ ys) = tt
lists_ranked (x ∷ xs) [] = tt
lists_ranked (x ∷ xs) (y ∷ ys) = step x y xs ys (nat_cmp x y) (slice_cmp nat_cmp xs ys) (ranked x y (nat_cmp x y) refl) (lists_ranked xs ys)

-- an order that is strict
record IsStrict (Before Same : List ℕ → List ℕ → Type 0) : Type 0 where
  apart : (one other : List ℕ) → Before one other → Same one other → ⊥
  back : (one other : List ℕ) → Before one other → Before other one → ⊥
  swapped : (one other : List ℕ) → Same one other → Same other one

module _ (Before Same : List ℕ → List ℕ → Type 0) (strict : IsStrict Before Same) (value key : List ℕ) where
  relates_decides : (relation : Relation) (order : Ordering) → MatchOrdering order (Before value key) (Same value key) (Before key value) → Decides (relates relation order) (Relates relation Before Same value key)
  relates_decides R.Greater Less h = (λ e. absurd (let no : ⊥ = cc in no), λ there. absurd (strict.back value key h there))
  relates_decides R.Greater Equal h = (λ e. absurd (let no : ⊥ = cc in no), λ there. absurd (strict.apart key value there (strict.swapped value key h)))
  relates_decides R.Greater Greater h = (λ _. h, λ _. refl)
  relates_decides R.GreaterOrEqual Less h = (λ e. absurd (let no : ⊥ = cc in no), λ there. elim there [ inl after ↦ absurd (strict.back value key h after) | inr same ↦ absurd (strict.apart value key h same) ])
  relates_decides R.GreaterOrEqual Equal h = (λ _. inr h, λ _. refl)
  relates_decides R.GreaterOrEqual Greater h = (λ _. inl h, λ _. refl)
  relates_decides R.Less Less h = (λ _. h, λ _. refl)
  relates_decides R.Less Equal h = (λ e. absurd (let no : ⊥ = cc in no), λ there. absurd (strict.apart value key there h))
  relates_decides R.Less Greater h = (λ e. absurd (let no : ⊥ = cc in no), λ there. absurd (strict.back key value h there))
  relates_decides R.LessOrEqual Less h = (λ _. inl h, λ _. refl)
  relates_decides R.LessOrEqual Equal h = (λ _. inr h, λ _. refl)
  relates_decides R.LessOrEqual Greater h = (λ e. absurd (let no : ⊥ = cc in no), λ there. elim there [ inl before ↦ absurd (strict.back key value h before) | inr same ↦ absurd (strict.apart key value h (strict.swapped value key same)) ])
  relates_decides R.Equal Less h = (λ e. absurd (let no : ⊥ = cc in no), λ there. absurd (strict.apart value key h there))
  relates_decides R.Equal Equal h = (λ _. h, λ _. refl)
  relates_decides R.Equal Greater h = (λ e. absurd (let no : ⊥ = cc in no), λ there. absurd (strict.apart key value h (strict.swapped value key there)))
  relates_decides R.NotEqual Less h = (λ _. λ same. strict.apart value key h same, λ _. refl)
  relates_decides R.NotEqual Equal h = (λ e. absurd (let no : ⊥ = cc in no), λ apart. absurd (apart h))
  relates_decides R.NotEqual Greater h = (λ _. λ same. strict.apart key value h (strict.swapped value key same), λ _. refl)

image_strict : (image : ℕ → ℕ) → IsStrict (ComesBefore image) (EqualBy image)
image_strict image = record {
  apart = λ one other before same. before_strict image one other before same;
  back = λ one other there again. before_strict image one one (before_chained image one other one there again) refl;
  swapped = λ one other same. sym same;
}

image_named : (image : ℕ → ℕ) (value key : List ℕ) (order : Ordering)
    → MatchOrdering order (Lesser (map image value) (map image key)) (map image value ≡ map image key) (Lesser (map image key) (map image value))
    → MatchOrdering order (ComesBefore image value key) (EqualBy image value key) (ComesBefore image key value)
image_named image value key Less h = before_of image value key h
image_named image value key Equal h = h
image_named image value key Greater h = before_of image key value h

pub image_ranked : (image : ℕ → ℕ) (value key : List ℕ) → MatchOrdering (order_by image value key) (ComesBefore image value key) (EqualBy image value key) (ComesBefore image key value)
image_ranked image value key = image_named image value key (order_by image value key) (lists_ranked (map image value) (map image key))

pub image_relates : (image : ℕ → ℕ) (relation : Relation) (value key : List ℕ) (order : Ordering)
    → MatchOrdering order (ComesBefore image value key) (EqualBy image value key) (ComesBefore image key value)
    → Decides (relates relation order) (Relates relation (ComesBefore image) (EqualBy image) value key)
image_relates image relation value key order h = relates_decides (ComesBefore image) (EqualBy image) (image_strict image) value key relation order h

number_strict : IsStrict IsBelow EqualNumbers
number_strict = record {
  apart = below_strict;
  back = λ one other there again. below_strict one one (below_chained one other one there again) (equal_of one one refl);
  swapped = λ one other (both, is, too). (both, too, is);
}

number_named : (value key : List ℕ) (m n : Option ℕ) → number_at value ≡ m → number_at key ≡ n
    → MatchOrdering (number_order m n) (IsBelow value key) (EqualNumbers value key) (IsBelow key value)
number_named value key (Some m) (Some n) is too = pair (nat_cmp m n) (ranked m n (nat_cmp m n) refl)
  where
    pair : (r : Ordering) → MatchOrdering r (m < n) (m ≡ n) (n < m) → MatchOrdering r (IsBelow value key) (EqualNumbers value key) (IsBelow key value)
    pair Less h = below_of value key (subst (λ a. IsLessNumber a (number_at key)) (sym is) (subst (λ b. IsLessNumber (Some m) b) (sym too) h))
    pair Equal h = equal_of value key (is ∙ ap Some h ∙ sym too)
    pair Greater h = below_of key value (subst (λ a. IsLessNumber a (number_at value)) (sym too) (subst (λ b. IsLessNumber (Some n) b) (sym is) h))
number_named value key (Some m) None is too = below_of value key (subst (λ a. IsLessNumber a (number_at key)) (sym is) (subst (λ b. IsLessNumber (Some m) b) (sym too) tt))
number_named value key None (Some n) is too = below_of key value (subst (λ a. IsLessNumber a (number_at value)) (sym too) (subst (λ b. IsLessNumber (Some n) b) (sym is) tt))
number_named value key None None is too = equal_of value key (is ∙ sym too)

pub number_ranked : (value key : List ℕ) → MatchOrdering (number_order (number_at value) (number_at key)) (IsBelow value key) (EqualNumbers value key) (IsBelow key value)
number_ranked value key = number_named value key (number_at value) (number_at key) refl refl

pub number_relates : (relation : Relation) (value key : List ℕ) (order : Ordering) → MatchOrdering order (IsBelow value key) (EqualNumbers value key) (IsBelow key value)
    → Decides (relates relation order) (Relates relation IsBelow EqualNumbers value key)
number_relates relation value key order h = relates_decides IsBelow EqualNumbers number_strict value key relation order h
