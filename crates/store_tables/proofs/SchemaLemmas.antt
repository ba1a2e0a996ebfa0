-- Lists that a pattern of the code took apart.
use Rattle.std.proofs.Common.{◌≡◌, ◌<◌, ◌≤◌, ◌+◌, ◌-◌, ℕ, suc, List, [], ◌∷◌, length, drop, get_or, drop-cons, length-drop, length-take, take, take_all, map, IsTrue, true, false, Bool, ◌==◌, nat_eq, ◌↔◌, refl, sym, subst, ap, ap₂, ◌∙◌, arith}
use Rattle.std.specs.Cmp.Lexicographic.{pointwise, told_text}
use Rattle.sqlite_value.specs.declared.keys.Order.{Order}
use Rattle.sqlite_value.specs.Keys.{plain}

-- these stand in the list from a place on
abbrev pub StandAt : {X : Type 0} → ℕ → List X → List X → Type 0
StandAt n [] xs = Unit {0}
StandAt n (y ∷ ys) xs = (y ≡ get_or xs n y) × StandAt (suc n) ys xs

nothing_left : {X : Type 0} (xs : List X) → length xs ≡ 0 → xs ≡ []
nothing_left [] e = refl
nothing_left (x ∷ xs) e = absurd (omega (arith, e))

all_from : {X : Type 0} (ys xs : List X) (n : ℕ) → length xs ≡ n + length ys → StandAt n ys xs → drop n xs ≡ ys
all_from [] xs n e h = nothing_left (drop n xs) (length-drop n xs ∙ omega (arith, e))
all_from (y ∷ ys) xs n e h = drop-cons xs n y (omega (arith, e)) ∙ ap₂ (λ a b. a ∷ b) (sym h.0) (all_from ys xs (suc n) (omega (arith, e)) h.1)

-- a list of that many items is these items
pub items_are : {X : Type 0} (ys xs : List X) → length xs ≡ length ys → StandAt 0 ys xs → xs ≡ ys
items_are ys xs e h = all_from ys xs 0 (omega (arith, e)) h

pub only_item : {X : Type 0} (xs : List X) (x : X) → 1 ≤ length xs → length xs < 2 → x ≡ get_or xs 0 x → xs ≡ x ∷ []
only_item xs x least below is = items_are (x ∷ []) xs (omega (arith, least, below)) (is, tt)

pub two_items : {X : Type 0} (xs : List X) (x y : X) → 2 ≤ length xs → length xs < 3 → x ≡ get_or xs 0 x → y ≡ get_or xs 1 y → xs ≡ x ∷ y ∷ []
two_items xs x y least below is last = items_are (x ∷ y ∷ []) xs (omega (arith, least, below)) (is, (last, tt))

pub only_same : {X : Type 0} (xs : List X) (x y : X) → xs ≡ x ∷ [] → xs ≡ y ∷ [] → x ≡ y
only_same xs x y one other = ap (λ l. get_or l 0 x) (sym one ∙ other)

pub shown_false : (P : Type 0) → ¬ P → (IsTrue false → P) × (P → IsTrue false)
shown_false P never = (λ e. absurd (let same = e in cc), λ h. absurd (never h))

module _ {X Y : Type 0} (f : Y → X) where
  pub same_first : (xs : List X) (ys : List Y) (x : X) (y : Y) → 1 ≤ length xs → 1 ≤ length ys → x ≡ get_or xs 0 x → y ≡ get_or ys 0 y → xs ≡ map f ys → x ≡ f y
  same_first [] ys x y lx ly ix iy same = absurd (omega (arith, lx))
  same_first (u ∷ us) [] x y lx ly ix iy same = absurd (omega (arith, ly))
  same_first (u ∷ us) (v ∷ vs) x y lx ly ix iy same = ix ∙ ap (λ l. get_or l 0 x) same ∙ ap f (sym iy)

  pub one_less : (xs : List X) (ys : List Y) (x : X) (y : Y) → 1 ≤ length xs → 1 ≤ length ys → x ≡ get_or xs 0 x → y ≡ get_or ys 0 y → x ≡ f y
      → (xs ≡ map f ys) ↔ (take (length xs - 1) (drop 1 xs) ≡ map f (take (length ys - 1) (drop 1 ys)))
  one_less [] ys x y lx ly ix iy same = absurd (omega (arith, lx))
  one_less (u ∷ us) [] x y lx ly ix iy same = absurd (omega (arith, ly))
  one_less (u ∷ us) (v ∷ vs) x y lx ly ix iy same =
      let first : u ≡ f v = sym ix ∙ same ∙ ap f iy in
      let xs_are : take (length (u ∷ us) - 1) us ≡ us = take_all (length (u ∷ us) - 1) us (omega arith) in
      let ys_are : take (length (v ∷ vs) - 1) vs ≡ vs = take_all (length (v ∷ vs) - 1) vs (omega arith) in
      subst (λ l. (u ∷ us ≡ map f (v ∷ vs)) ↔ (l ≡ map f (take (length (v ∷ vs) - 1) vs))) (sym xs_are)
      (subst (λ l. (u ∷ us ≡ map f (v ∷ vs)) ↔ (us ≡ map f l)) (sym ys_are) (λ h. ap (drop 1) h, λ h. ap₂ (λ a b. a ∷ b) first h))

  pub no_first : (xs : List X) (ys : List Y) → length xs < 1 → 1 ≤ length ys → ¬ (xs ≡ map f ys)
  no_first [] [] lx ly same = omega (arith, ly)
  no_first [] (v ∷ vs) lx ly same = let e = same in cc
  no_first (u ∷ us) ys lx ly same = omega (arith, lx)

  pub none_left : (xs : List X) (ys : List Y) → length ys < 1 → (xs ≡ []) ↔ (xs ≡ map f ys)
  none_left xs [] ly = (λ h. h, λ h. h)
  none_left xs (v ∷ vs) ly = absurd (omega (arith, ly))

-- an element stays itself, whatever is given where there is none
pub get_is : {X : Type 0} (xs : List X) (d : X) → 1 ≤ length xs → get_or xs 0 d ≡ get_or xs 0 (get_or xs 0 d)
get_is [] d least = absurd (omega (arith, least))
get_is (x ∷ xs) d least = refl

pub shorter : {X : Type 0} (xs : List X) → 1 ≤ length xs → length (take (length xs - 1) (drop 1 xs)) < length xs
shorter [] least = absurd (omega (arith, least))
shorter (x ∷ xs) least = omega (arith, length-take (length (x ∷ xs) - 1) xs)

-- a test of two texts for equality
pub same_text : (xs ys : List ℕ) (r : Bool) → r ≡ pointwise nat_eq xs ys → IsTrue r ↔ (xs ≡ ys)
same_text xs ys true is = let told = told_text xs ys true is in (λ e. told, λ e. refl)
same_text xs ys false is = let told = told_text xs ys false is in (λ e. absurd (let same = e in cc), λ e. absurd (told e))

eqb_yes_is : (n : ℕ) → IsTrue (nat_eq n 0) → n ≡ 0
eqb_yes_is n e = grind (arith, e)

pub only_plain : (orders : List Order) (d : Order) → 1 ≤ length orders → length orders < 2 → IsTrue (nat_eq (get_or orders 0 d).digits 0) ↔ (orders ≡ plain ∷ [])
only_plain [] d least below = absurd (omega (arith, least))
only_plain (x ∷ []) d least below = (λ e. ap (λ n. record { digits = n } ∷ []) (eqb_yes_is x.digits e), λ same. ap (λ l. nat_eq (get_or l 0 d).digits 0) same)
only_plain (x ∷ y ∷ xs) d least below = absurd (omega (arith, below))

-- what a test for no more items tells
pub empty_is : {X : Type 0} (xs : List X) (r : Bool) (P : Type 0) → r ≡ (length xs == 0) → P ↔ (xs ≡ []) → IsTrue r ↔ P
empty_is [] r P is same = (λ e. same.1 refl, λ h. is)
empty_is (x ∷ xs) r P is same = (λ e. absurd (never xs (sym e ∙ is)), λ h. absurd (let no = same.0 h in cc))
  where
    never : {X : Type 0} (xs : List X) → ¬ (true ≡ (suc (length xs) == 0))
    never xs e = grind (arith, e)
