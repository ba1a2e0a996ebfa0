-- A text that is cut at its first mark.
use Prim.Native.Nat.{zero}
use Rattle.std.proofs.Common.{◌≡◌, ℕ, suc, ◌+◌, ◌==◌, ◌&&◌, not, cond, Bool, true, false, List, [], ◌∷◌, ◌++◌, length, take, drop, refl, sym, ap, ◌∙◌, arith}
use Rattle.std.specs.List.{list_all, prefix_len}
use Rattle.std.proofs.lemmas.Bool.{and_parts, eqb-true}
use Rattle.store_text.specs.Netstring.{other, CutsAtMark}

pub both_true : (a b : Bool) → a ≡ true → b ≡ true → (a && b) ≡ true
both_true true b one two = two
both_true false b one two = one

pub head_same : (a b : ℕ) (xs ys : List ℕ) → a ∷ xs ≡ b ∷ ys → a ≡ b
head_same a b xs ys same = cc

pub tail_same : (a b : ℕ) (xs ys : List ℕ) → a ∷ xs ≡ b ∷ ys → xs ≡ ys
tail_same a b xs ys same = cc

-- the mark is no other octet
pub own_mark : (mark : ℕ) → other mark mark ≡ true → ⊥
own_mark mark is = let same : (mark == mark) ≡ true = grind arith in let no : not true ≡ true = ap not (sym same) ∙ is in cc

-- the octets up to the first mark, and the mark with those behind it
pub cut_there : (mark : ℕ) (text rest : List ℕ) (octet count : ℕ) → count ≡ prefix_len (other mark) text → drop count text ≡ octet ∷ rest → CutsAtMark mark text (take count text) rest
cut_there mark [] rest octet count value behind = let none : drop {A = ℕ} count [] ≡ [] = nothing count in absurd (let no = sym none ∙ behind in cc)
  where
    nothing : (n : ℕ) → drop {A = ℕ} n [] ≡ []
    nothing zero = refl
    nothing (suc n) = refl
cut_there mark (x ∷ text) rest octet count value behind = go (x == mark) refl count value behind (λ n v h. cut_there mark text rest octet n v h)
  where
    go : (b : Bool) → (x == mark) ≡ b → (n : ℕ) → n ≡ cond (not b) (1 + prefix_len (other mark) text) 0 → drop n (x ∷ text) ≡ octet ∷ rest → ((m : ℕ) → m ≡ prefix_len (other mark) text → drop m text ≡ octet ∷ rest → CutsAtMark mark text (take m text) rest) → CutsAtMark mark (x ∷ text) (take n (x ∷ text)) rest
    go true is zero v h below = record { written = ap (λ o. o ∷ text) (eqb-true x mark is) ∙ ap (λ t. mark ∷ t) (tail_same x octet text rest h); first = refl }
    go true is (suc n) v h below = absurd (omega (arith, v))
    go false is zero v h below = absurd (omega (arith, v))
    go false is (suc n) v h below =
        let deeper = below n (omega (arith, v)) h in
        record { written = ap (λ t. x ∷ t) deeper.written; first = both_true (not (x == mark)) (list_all (other mark) (take n text)) (ap not is) deeper.first }

-- no mark is in a text that ends before one
pub none_there : (mark : ℕ) (text : List ℕ) (count : ℕ) → count ≡ prefix_len (other mark) text → drop count text ≡ [] → (front rest : List ℕ) → text ≡ front ++ mark ∷ rest → ⊥
none_there mark [] n v h [] rest w = let no = w in cc
none_there mark [] n v h (f ∷ front) rest w = let no = w in cc
none_there mark (x ∷ text) n v h [] rest w =
    let is : (x == mark) ≡ true = (let e : x ≡ mark = head_same x mark text rest w in grind (arith, e)) in
    let none : n ≡ 0 = v ∙ ap (λ b. cond (not b) (1 + prefix_len (other mark) text) 0) is in
    let no : x ∷ text ≡ [] = ap (λ k. drop k (x ∷ text)) (sym none) ∙ h in
    cc
none_there mark (x ∷ text) n v h (f ∷ front) rest w = by (x == mark) n v h (λ m v h. none_there mark text m v h front rest (tail_same x f text (front ++ mark ∷ rest) w))
  where
    by : (b : Bool) (n : ℕ) → n ≡ cond (not b) (1 + prefix_len (other mark) text) 0 → drop n (x ∷ text) ≡ [] → ((m : ℕ) → m ≡ prefix_len (other mark) text → drop m text ≡ [] → ⊥) → ⊥
    by true zero v h deeper = let no = h in cc
    by true (suc n) v h deeper = omega (arith, v)
    by false zero v h deeper = let no = h in cc
    by false (suc n) v h deeper = deeper n (omega (arith, v)) h

-- a text is cut at its first mark in one way
pub one_cut : (mark : ℕ) (a c b d : List ℕ) → a ++ mark ∷ b ≡ c ++ mark ∷ d → list_all (other mark) a ≡ true → list_all (other mark) c ≡ true → (a ≡ c) × (b ≡ d)
one_cut mark [] [] b d same one two = (refl, tail_same mark mark b d same)
one_cut mark [] (y ∷ c) b d same one two =
    let first : mark ≡ y = head_same mark y b (c ++ mark ∷ d) same in
    absurd (own_mark mark (ap (other mark) first ∙ (and_parts (other mark y) (list_all (other mark) c) two).0))
one_cut mark (x ∷ a) [] b d same one two =
    let first : mark ≡ x = sym (head_same x mark (a ++ mark ∷ b) d same) in
    absurd (own_mark mark (ap (other mark) first ∙ (and_parts (other mark x) (list_all (other mark) a) one).0))
one_cut mark (x ∷ a) (y ∷ c) b d same one two =
    let first : x ≡ y = head_same x y (a ++ mark ∷ b) (c ++ mark ∷ d) same in
    let later = one_cut mark a c b d (tail_same x y (a ++ mark ∷ b) (c ++ mark ∷ d) same) (and_parts (other mark x) (list_all (other mark) a) one).1 (and_parts (other mark y) (list_all (other mark) c) two).1 in
    (ap (λ o. o ∷ a) first ∙ ap (λ t. y ∷ t) later.0, later.1)

pub no_octets : (text : List ℕ) → length text ≡ 0 → text ≡ []
no_octets [] none = refl
no_octets (octet ∷ text) none = absurd (omega (arith, none))
