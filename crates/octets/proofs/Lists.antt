-- Lemmas on results and choices that every parser needs.
use Rattle.std.proofs.Common.{◌≡◌, ◌⊎◌, Bool, true, false, cond, Some, refl, ap, inl, inr}

-- which way a choice went
pub fork : {A : Type 0} (test : Bool) (x y z : A) → cond test x y ≡ z → ((test ≡ true) × (x ≡ z)) ⊎ ((test ≡ false) × (y ≡ z))
fork true x y z same = inl (refl, same)
fork false x y z same = inr (refl, same)

-- equal present values have equal contents
pub some_is : {A : Type 0} (x y : A) → Some x ≡ Some y → x ≡ y
some_is x y same = cc

-- equal present pairs have equal parts
pub some_pair : {A B : Type 0} (p q : A × B) → Some p ≡ Some q → (p.0 ≡ q.0) × (p.1 ≡ q.1)
some_pair p q same = let pairs : p ≡ q = cc in (ap (λ r. r.0) pairs, ap (λ r. r.1) pairs)
