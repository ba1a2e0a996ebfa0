-- The order of texts, place by place.
use Rattle.std.proofs.Common.{refl, ◌≡◌, ◌≢◌, ℕ, zero, suc, min, ◌+◌, ◌<◌, ◌≤◌, ◌⊎◌, inl, inr, List, [], ◌∷◌, ◌++◌, map, length, get_or, sym, subst, ◌∙◌, arith}
use Rattle.std.specs.declared.cmp.Ordering.{Ordering}
use Rattle.std.specs.declared.cmp.Ordering.TheVariants.{Less, Equal, Greater}
use Rattle.std.specs.Ordering.{MatchOrdering, nat_cmp}
use Rattle.std.proofs.lemmas.Bool.{cases_lt}
use Rattle.std.proofs.lemmas.Cmp.{ranked}
use Rattle.sieve_match.specs.Comparators.{EqualBy, SameFrom}
use Rattle.sieve_match.specs.Sorting.{IsLess, ComesBefore}
use Rattle.sieve_match.proofs.Standing.{EqualBy-from}

abbrev pub Lesser : List ℕ → List ℕ → Type 0
Lesser [] [] = ⊥
Lesser [] (other ∷ others) = Unit {0}
Lesser (one ∷ more) [] = ⊥
Lesser (one ∷ more) (other ∷ others) = (one < other) ⊎ ((one ≡ other) × Lesser more others)

after_front : (front rest others : List ℕ) → IsLess rest others → Lesser (front ++ rest) (front ++ others)
after_front [] [] [] less = less
after_front [] [] (other ∷ others) less = tt
after_front [] (one ∷ more) [] less = less
after_front [] (one ∷ more) (other ∷ others) less = inl less
after_front (first ∷ front) rest others less = inr (refl, after_front front rest others less)

-- where two lists part
record Parts (one other : List ℕ) : Type 0 where
  front : List ℕ
  rest : List ℕ
  others : List ℕ
  begins : one ≡ front ++ rest
  other_begins : other ≡ front ++ others
  less : IsLess rest others

both_same : (a b : ℕ) (x y : List ℕ) → a ≡ b → x ≡ y → a ∷ x ≡ b ∷ y
both_same a b x y one more = cc

further : (x y : ℕ) (xs ys : List ℕ) → x ≡ y → Parts xs ys → Parts (x ∷ xs) (y ∷ ys)
further x y xs ys same parts = record {
  front = x ∷ parts.front;
  rest = parts.rest;
  others = parts.others;
  begins = both_same x x xs _ refl parts.begins;
  other_begins = both_same y x ys _ (sym same) parts.other_begins;
  less = parts.less;
}

parted : (xs ys : List ℕ) → Lesser xs ys → Parts xs ys
parted [] [] less = absurd less
parted [] (y ∷ ys) less = record { front = []; rest = []; others = y ∷ ys; begins = refl; other_begins = refl; less = tt }
parted (x ∷ xs) [] less = absurd less
parted (x ∷ xs) (y ∷ ys) (inl below) = record { front = []; rest = x ∷ xs; others = y ∷ ys; begins = refl; other_begins = refl; less = below }
parted (x ∷ xs) (y ∷ ys) (inr (same, less)) = further x y xs ys same (parted xs ys less)

pub before_of : (f : ℕ → ℕ) (one other : List ℕ) → Lesser (map f one) (map f other) → ComesBefore f one other
before_of f one other less =
    let p = parted (map f one) (map f other) less in
    record { front = p.front; rest = p.rest; rest_of_other = p.others; begins = p.begins; other_begins = p.other_begins; less = p.less }

pub lesser_of : (f : ℕ → ℕ) (one other : List ℕ) → ComesBefore f one other → Lesser (map f one) (map f other)
lesser_of f one other h =
    subst (λ l. Lesser l (map f other)) (sym h.begins) (subst (λ l. Lesser (h.front ++ h.rest) l) (sym h.other_begins) (after_front h.front h.rest h.rest_of_other h.less))

-- ---- the laws

compared_at : (x y : ℕ) (xs ys : List ℕ) → (x < y) ⊎ (y ≤ x) → (y < x) ⊎ (x ≤ y) → Lesser xs ys ⊎ ((xs ≡ ys) ⊎ Lesser ys xs)
    → Lesser (x ∷ xs) (y ∷ ys) ⊎ ((x ∷ xs ≡ y ∷ ys) ⊎ Lesser (y ∷ ys) (x ∷ xs))
compared_at x y xs ys (inl below) _ _ = inl (inl below)
compared_at x y xs ys (inr least) (inl above) _ = inr (inr (inl above))
compared_at x y xs ys (inr least) (inr most) (inl less) = inl (inr (omega arith, less))
compared_at x y xs ys (inr least) (inr most) (inr (inl same)) = inr (inl (both_same x y xs ys (omega arith) same))
compared_at x y xs ys (inr least) (inr most) (inr (inr more)) = inr (inr (inr (omega arith, more)))

compared : (xs ys : List ℕ) → Lesser xs ys ⊎ ((xs ≡ ys) ⊎ Lesser ys xs)
compared [] [] = inr (inl refl)
compared [] (y ∷ ys) = inl tt
compared (x ∷ xs) [] = inr (inr tt)
compared (x ∷ xs) (y ∷ ys) = compared_at x y xs ys (cases_lt x y) (cases_lt y x) (compared xs ys)

chained : (xs ys zs : List ℕ) → Lesser xs ys → Lesser ys zs → Lesser xs zs
chained [] [] zs p q = absurd p
chained [] (y ∷ ys) [] p q = absurd q
chained [] (y ∷ ys) (z ∷ zs) p q = tt
chained (x ∷ xs) [] zs p q = absurd p
chained (x ∷ xs) (y ∷ ys) [] p q = absurd q
chained (x ∷ xs) (y ∷ ys) (z ∷ zs) (inl a) (inl b) = inl (omega arith)
chained (x ∷ xs) (y ∷ ys) (z ∷ zs) (inl a) (inr (t, q)) = inl (omega arith)
chained (x ∷ xs) (y ∷ ys) (z ∷ zs) (inr (s, p)) (inl b) = inl (omega arith)
chained (x ∷ xs) (y ∷ ys) (z ∷ zs) (inr (s, p)) (inr (t, q)) = inr (s ∙ t, chained xs ys zs p q)

not_itself : (xs : List ℕ) → Lesser xs xs → ⊥
not_itself [] p = p
not_itself (x ∷ xs) (inl a) = omega arith
not_itself (x ∷ xs) (inr (s, p)) = not_itself xs p

module _ (f : ℕ → ℕ) where
  named : (one other : List ℕ) → Lesser (map f one) (map f other) ⊎ (EqualBy f one other ⊎ Lesser (map f other) (map f one))
      → ComesBefore f one other ⊎ (EqualBy f one other ⊎ ComesBefore f other one)
  named one other (inl less) = inl (before_of f one other less)
  named one other (inr (inl same)) = inr (inl same)
  named one other (inr (inr more)) = inr (inr (before_of f other one more))

  pub before_total : (one other : List ℕ) → ComesBefore f one other ⊎ (EqualBy f one other ⊎ ComesBefore f other one)
  before_total one other = named one other (compared (map f one) (map f other))

  pub before_chained : (a b c : List ℕ) → ComesBefore f a b → ComesBefore f b c → ComesBefore f a c
  before_chained a b c p q = before_of f a c (chained (map f a) (map f b) (map f c) (lesser_of f a b p) (lesser_of f b c q))

  pub before_strict : (one other : List ℕ) → ComesBefore f one other → EqualBy f one other → ⊥
  before_strict one other p same = not_itself (map f other) (subst (λ l. Lesser l (map f other)) same (lesser_of f one other p))

  -- ---- two texts whose first images are the same

  pub by_place : (xs ys : List ℕ) (i : ℕ) → ((k : ℕ) → k < i → f (get_or xs k 0) ≡ f (get_or ys k 0)) → i < length xs → i < length ys
      → f (get_or xs i 0) < f (get_or ys i 0) → Lesser (map f xs) (map f ys)
  by_place [] ys i same low high less = absurd (omega arith)
  by_place (x ∷ xs) [] i same low high less = absurd (omega arith)
  by_place (x ∷ xs) (y ∷ ys) zero same low high less = inl less
  by_place (x ∷ xs) (y ∷ ys) (suc i) same low high less =
      inr (same 0 (omega arith), by_place xs ys i (λ k l. same (suc k) (omega arith)) (omega arith) (omega arith) less)

  pub by_end : (xs ys : List ℕ) → ((k : ℕ) → k < length xs → f (get_or xs k 0) ≡ f (get_or ys k 0)) → length xs < length ys → Lesser (map f xs) (map f ys)
  by_end [] [] same long = absurd (omega arith)
  by_end [] (y ∷ ys) same long = tt
  by_end (x ∷ xs) [] same long = absurd (omega arith)
  by_end (x ∷ xs) (y ∷ ys) same long = inr (same 0 (omega arith), by_end xs ys (λ k l. same (suc k) (omega arith)) (omega arith))

  -- the images before a place
  before_place : (one other : List ℕ) (place : ℕ) → SameFrom f one other 0 place → (k : ℕ) → k < place → f (get_or one k 0) ≡ f (get_or other k 0)
  before_place one other place same k l =
      let at : 0 + k ≡ k = omega arith in
      subst (λ j. f (get_or one j 0) ≡ f (get_or other j 0)) at (same k l)

  -- what the lengths tell where the images of the shorter one are those at the front of the other
  ends : (one other : List ℕ) (place : ℕ) → SameFrom f one other 0 place → place ≡ min (length one) (length other) → (r : Ordering)
      → MatchOrdering r (length one < length other) (length one ≡ length other) (length other < length one)
      → MatchOrdering r (ComesBefore f one other) (EqualBy f one other) (ComesBefore f other one)
  ends one other place same is Less h = before_of f one other (by_end one other (λ k l. before_place one other place same k (omega (arith, is))) h)
  ends one other place same is Equal h = EqualBy-from f one other h (λ k l. before_place one other place same k (omega (arith, is)))
  ends one other place same is Greater h = before_of f other one (by_end other one (λ k l. sym (before_place one other place same k (omega (arith, is)))) h)

  pub ended : (one other : List ℕ) (place : ℕ) → SameFrom f one other 0 place → place ≡ min (length one) (length other) → (r : Ordering) → r ≡ nat_cmp (length one) (length other)
      → MatchOrdering r (ComesBefore f one other) (EqualBy f one other) (ComesBefore f other one)
  ended one other place same is r compared = ends one other place same is r (ranked (length one) (length other) r compared)

  -- what the images tell where they differ
  differ : (one other : List ℕ) (place : ℕ) → SameFrom f one other 0 place → place < length one → place < length other
      → f (get_or one place 0) ≢ f (get_or other place 0) → (r : Ordering)
      → MatchOrdering r (f (get_or one place 0) < f (get_or other place 0)) (f (get_or one place 0) ≡ f (get_or other place 0)) (f (get_or other place 0) < f (get_or one place 0))
      → MatchOrdering r (ComesBefore f one other) (EqualBy f one other) (ComesBefore f other one)
  differ one other place same low high apart Less h = before_of f one other (by_place one other place (before_place one other place same) low high h)
  differ one other place same low high apart Equal h = absurd (apart h)
  differ one other place same low high apart Greater h = before_of f other one (by_place other one place (λ k l. sym (before_place one other place same k l)) high low h)

  pub differing : (one other : List ℕ) (place : ℕ) → SameFrom f one other 0 place → place < length one → place < length other
      → f (get_or one place 0) ≢ f (get_or other place 0) → (r : Ordering) → r ≡ nat_cmp (f (get_or one place 0)) (f (get_or other place 0))
      → MatchOrdering r (ComesBefore f one other) (EqualBy f one other) (ComesBefore f other one)
  differing one other place same low high apart r compared =
      differ one other place same low high apart r (ranked (f (get_or one place 0)) (f (get_or other place 0)) r compared)
