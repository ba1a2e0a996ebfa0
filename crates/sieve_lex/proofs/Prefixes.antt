-- Lemmas on the octets at a front that pass a test.
use Rattle.std.proofs.Common.{◌≡◌, ◌⊎◌, ℕ, ◌+◌, ◌<◌, ◌≤◌, suc, zero, Bool, true, false, cond, ◌&&◌, List, [], ◌∷◌, ◌++◌, length, take, drop, refl, ap, sym, ◌∙◌, inl, inr, arith, take-append-drop}
use Rattle.std.proofs.Math.Nat.{eq-or-lt_of_le}
use Rattle.std.specs.List.{list_all, prefix_len, take_while}
use Rattle.std.proofs.lemmas.List.Sums.{take_while-cons}

pub one_more : (n : ℕ) → 1 + n ≡ suc n
one_more n = omega arith

-- both of two tests that are true together are true
pub both : (a b : Bool) → (a && b) ≡ true → (a ≡ true) × (b ≡ true)
both true b h = (refl, h)
both false b h = absurd (cc)

-- at most, and a fact where it is as much
pub at_most : (m n : ℕ) (P : Type 0) → m ≤ n → (m ≡ n → P) → (m < n) ⊎ ((m ≡ n) × P)
at_most m n P le p = elim (eq-or-lt_of_le le) [ inl e ↦ inr (e, p e) | inr l ↦ inl l ]

-- a front whose octets all pass is no longer than the longest one
pub all_prefix : (p : ℕ → Bool) (xs : List ℕ) (m : ℕ) → m ≤ length xs → list_all p (take m xs) ≡ true → m ≤ prefix_len p xs
all_prefix p xs zero w h = omega arith
all_prefix p [] (suc m) w h = absurd (omega arith)
all_prefix p (x ∷ xs) (suc m) w h =
    let parts : (p x ≡ true) × (list_all p (take m xs) ≡ true) = both _ _ h in
    let less : m ≤ prefix_len p xs = all_prefix p xs m (omega arith) parts.1 in
    rw parts.0 (omega arith)

all_cond : (p : ℕ → Bool) (x : ℕ) (ys : List ℕ) (b : Bool) → p x ≡ b → list_all p ys ≡ true → list_all p (cond b (x ∷ ys) []) ≡ true
all_cond p x ys true e h = rw (e, h) refl
all_cond p x ys false e h = refl

-- the octets of the longest one all pass
pub prefix_all : (p : ℕ → Bool) (xs : List ℕ) → list_all p (take (prefix_len p xs) xs) ≡ true
prefix_all p [] = refl
prefix_all p (x ∷ xs) = rw (take_while-cons p x xs) (all_cond p x (take_while p xs) (p x) refl (prefix_all p xs))

-- octets that pass, in front of others
pub prefix_len-passed : (p : ℕ → Bool) (xs ys : List ℕ) → list_all p xs ≡ true → prefix_len p (xs ++ ys) ≡ length xs + prefix_len p ys
prefix_len-passed p [] ys h = omega arith
prefix_len-passed p (x ∷ xs) ys h =
    let parts : (p x ≡ true) × (list_all p xs ≡ true) = both _ _ h in
    let rest : prefix_len p (xs ++ ys) ≡ length xs + prefix_len p ys = prefix_len-passed p xs ys parts.1 in
    rw parts.0 (omega arith)

-- a list of which a front is known
pub front_of : (xs front : List ℕ) (m : ℕ) → take m xs ≡ front → xs ≡ front ++ drop m xs
front_of xs front m e = sym (take-append-drop m xs) ∙ ap (λ f. f ++ drop m xs) e

pub take_none : (n : ℕ) → take {A = ℕ} n [] ≡ []
take_none zero = refl
take_none (suc n) = refl

-- a longer front is a shorter one and what follows it
pub take_sum : (m n : ℕ) (xs : List ℕ) → take (m + n) xs ≡ take m xs ++ take n (drop m xs)
take_sum zero n xs = ap (λ i. take i xs) (omega arith)
take_sum (suc m) n [] = take_none (suc m + n) ∙ sym (take_none n)
take_sum (suc m) n (x ∷ xs) = let e : suc m + n ≡ suc (m + n) = omega arith in rw e (ap (λ s. x ∷ s) (take_sum m n xs))
