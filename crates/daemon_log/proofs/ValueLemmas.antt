-- Values in a line: what they have, and that no two of them stand there alike.
use Rattle.std.proofs.Common.{◌≡◌, ℕ, ◌+◌, ◌-◌, ◌*◌, ◌/◌, ◌%◌, ◌<◌, ◌≤◌, ◌==◌, nat_le, nat_lt, Bool, true, false, ◌&&◌, ◌||◌, cond, List, [], ◌∷◌, ◌++◌, refl, sym, ◌∙◌, ap, subst, append_assoc, append-nil, arith}
use Rattle.std.specs.List.{list_all}
use Rattle.daemon_log.specs.Values.{is_between, is_mark, is_plain, is_visible, is_octet, digit_of, escaped_octet, escaped, is_bare, spelled}

pub left : (a b : Bool) → (a && b) ≡ true → a ≡ true
left true b is = refl
left false b is = is

pub right : (a b : Bool) → (a && b) ≡ true → b ≡ true
right true b is = is
right false b is = let never : ⊥ = cc in absurd never

pub both : (a b : Bool) → a ≡ true → b ≡ true → (a && b) ≡ true
both true b p q = q
both false b p q = p

-- what holds of each octet of one kind holds of all
pub all_of : (p q : ℕ → Bool) → ((x : ℕ) → p x ≡ true → q x ≡ true) → (a : List ℕ) → list_all p a ≡ true → list_all q a ≡ true
all_of p q holds [] is = refl
all_of p q holds (x ∷ a) is = both (q x) (list_all q a) (holds x (left (p x) (list_all p a) is)) (all_of p q holds a (right (p x) (list_all p a) is))

pub all_append : (p : ℕ → Bool) (a b : List ℕ) → list_all p a ≡ true → list_all p b ≡ true → list_all p (a ++ b) ≡ true
all_append p [] b of is = is
all_append p (x ∷ a) b of is = both (p x) (list_all p (a ++ b)) (left (p x) (list_all p a) of) (all_append p a b (right (p x) (list_all p a) of) is)

-- ---- what octets have

plain_visible : (x : ℕ) → is_plain x ≡ true → is_visible x ≡ true
plain_visible x is = grind arith

digit_visible : (v : ℕ) → v < 16 → is_visible (digit_of v) ≡ true
digit_visible v few = go (nat_lt v 10) refl
  where
    go : (b : Bool) → nat_lt v 10 ≡ b → is_visible (cond b (48 + v) (65 + (v - 10))) ≡ true
    go true is = grind arith
    go false is = grind arith

octet_below : (x : ℕ) → is_octet x ≡ true → x < 256
octet_below x is = grind arith

high_below : (x : ℕ) → x < 256 → x / 16 < 16
high_below x is = grind arith

low_below : (x : ℕ) → x % 16 < 16
low_below x = grind arith

escaped_visible : (x : ℕ) → is_octet x ≡ true → list_all is_visible (escaped_octet x) ≡ true
escaped_visible x octet = go (is_plain x) refl
  where
    go : (b : Bool) → is_plain x ≡ b → list_all is_visible (cond b (x ∷ []) (92 ∷ 120 ∷ digit_of (x / 16) ∷ digit_of (x % 16) ∷ [])) ≡ true
    go true is = both (is_visible x) true (plain_visible x is) refl
    go false is =
        both (is_visible (digit_of (x / 16))) (is_visible (digit_of (x % 16)) && true) (digit_visible (x / 16) (high_below x (octet_below x octet)))
        (both (is_visible (digit_of (x % 16))) true (digit_visible (x % 16) (low_below x)) refl)

all_escaped : (a : List ℕ) → list_all is_octet a ≡ true → list_all is_visible (escaped a) ≡ true
all_escaped [] is = refl
all_escaped (x ∷ a) is = all_append is_visible (escaped_octet x) (escaped a) (escaped_visible x (left (is_octet x) (list_all is_octet a) is)) (all_escaped a (right (is_octet x) (list_all is_octet a) is))

bare_plain : (a : List ℕ) → is_bare a ≡ true → list_all is_plain a ≡ true
bare_plain [] is = refl
bare_plain (x ∷ a) is = is

pub spelled_visible : (a : List ℕ) → list_all is_octet a ≡ true → list_all is_visible (spelled a) ≡ true
spelled_visible a octets = go (is_bare a) refl
  where
    go : (b : Bool) → is_bare a ≡ b → list_all is_visible (cond b a (34 ∷ (escaped a ++ 34 ∷ []))) ≡ true
    go true is = all_of is_plain is_visible plain_visible a (bare_plain a is)
    go false is = all_append is_visible (escaped a) (34 ∷ []) (all_escaped a octets) refl

-- ---- no two values stand alike

digit_same : (v w : ℕ) → v < 16 → w < 16 → digit_of v ≡ digit_of w → v ≡ w
digit_same v w few less is = go (nat_lt v 10) (nat_lt w 10) refl refl is
  where
    go : (b c : Bool) → nat_lt v 10 ≡ b → nat_lt w 10 ≡ c → cond b (48 + v) (65 + (v - 10)) ≡ cond c (48 + w) (65 + (w - 10)) → v ≡ w
    go true true p q is = grind arith
    go true false p q is = grind arith
    go false true p q is = grind arith
    go false false p q is = grind arith

halves_same : (x y : ℕ) → x / 16 ≡ y / 16 → x % 16 ≡ y % 16 → x ≡ y
halves_same x y high low = grind arith

-- an octet that stands alike at the front of two texts is the same, and so is what follows
octet_same : (x y : ℕ) (u v : List ℕ) → is_octet x ≡ true → is_octet y ≡ true → escaped_octet x ++ u ≡ escaped_octet y ++ v → (x ≡ y) × (u ≡ v)
octet_same x y u v p q is = go (is_plain x) (is_plain y) refl refl is
  where
    go : (b c : Bool) → is_plain x ≡ b → is_plain y ≡ c
        → cond b (x ∷ []) (92 ∷ 120 ∷ digit_of (x / 16) ∷ digit_of (x % 16) ∷ []) ++ u ≡ cond c (y ∷ []) (92 ∷ 120 ∷ digit_of (y / 16) ∷ digit_of (y % 16) ∷ []) ++ v → (x ≡ y) × (u ≡ v)
    go true true f g is = let one : x ≡ y = cc in let two : u ≡ v = cc in (one, two)
    go true false f g is =
        let one : x ≡ 92 = cc in
        let never : is_plain 92 ≡ true = subst (λ n. is_plain n ≡ true) one f in
        let none : ⊥ = cc in absurd none
    go false true f g is =
        let one : y ≡ 92 = cc in
        let never : is_plain 92 ≡ true = subst (λ n. is_plain n ≡ true) one g in
        let none : ⊥ = cc in absurd none
    go false false f g is =
        let high : digit_of (x / 16) ≡ digit_of (y / 16) = cc in
        let low : digit_of (x % 16) ≡ digit_of (y % 16) = cc in
        let two : u ≡ v = cc in (
          halves_same x y (digit_same (x / 16) (y / 16) (high_below x (octet_below x p)) (high_below y (octet_below y q)) high)
              (digit_same (x % 16) (y % 16) (low_below x) (low_below y) low),
          two,
        )

-- no octet stands as the mark at the end does
not_the_end : (y : ℕ) (v : List ℕ) → 34 ∷ [] ≡ escaped_octet y ++ v → ⊥
not_the_end y v is = go (is_plain y) refl is
  where
    go : (b : Bool) → is_plain y ≡ b → 34 ∷ [] ≡ cond b (y ∷ []) (92 ∷ 120 ∷ digit_of (y / 16) ∷ digit_of (y % 16) ∷ []) ++ v → ⊥
    go true f is =
        let one : y ≡ 34 = cc in
        let never : is_plain 34 ≡ true = subst (λ n. is_plain n ≡ true) one f in
        cc
    go false f is = cc

escaped_same : (a b : List ℕ) → list_all is_octet a ≡ true → list_all is_octet b ≡ true → escaped a ++ 34 ∷ [] ≡ escaped b ++ 34 ∷ [] → a ≡ b
escaped_same [] [] p q is = refl
escaped_same [] (y ∷ b) p q is = absurd (not_the_end y (escaped b ++ 34 ∷ []) (is ∙ append_assoc (escaped_octet y) (escaped b) (34 ∷ [])))
escaped_same (x ∷ a) [] p q is = absurd (not_the_end x (escaped a ++ 34 ∷ []) (sym is ∙ append_assoc (escaped_octet x) (escaped a) (34 ∷ [])))
escaped_same (x ∷ a) (y ∷ b) p q is =
    let parts = octet_same x y (escaped a ++ 34 ∷ []) (escaped b ++ 34 ∷ []) (left (is_octet x) (list_all is_octet a) p) (left (is_octet y) (list_all is_octet b) q)
    (sym (append_assoc (escaped_octet x) (escaped a) (34 ∷ [])) ∙ is ∙ append_assoc (escaped_octet y) (escaped b) (34 ∷ [])) in
    let rest : a ≡ b = escaped_same a b (right (is_octet x) (list_all is_octet a) p) (right (is_octet y) (list_all is_octet b) q) parts.1 in
    let one : x ≡ y = parts.0 in
    cc

-- a bare value doesn't begin with a quotation mark
not_bare : (a u : List ℕ) → is_bare a ≡ true → a ≡ 34 ∷ u → ⊥
not_bare [] u bare is = let never : ⊥ = cc in never
not_bare (x ∷ a) u bare is =
    let one : x ≡ 34 = cc in
    let plain : is_plain 34 ≡ true = subst (λ n. is_plain n ≡ true) one (left (is_plain x) (list_all is_plain a) (bare_plain (x ∷ a) bare)) in
    cc

pub spelled_same : (a b : List ℕ) → list_all is_octet a ≡ true → list_all is_octet b ≡ true → spelled a ≡ spelled b → a ≡ b
spelled_same a b p q is = go (is_bare a) (is_bare b) refl refl is
  where
    go : (f g : Bool) → is_bare a ≡ f → is_bare b ≡ g → cond f a (34 ∷ (escaped a ++ 34 ∷ [])) ≡ cond g b (34 ∷ (escaped b ++ 34 ∷ [])) → a ≡ b
    go true true f g is = is
    go true false f g is = absurd (not_bare a (escaped b ++ 34 ∷ []) f is)
    go false true f g is = absurd (not_bare b (escaped a ++ 34 ∷ []) g (sym is))
    go false false f g is = let inner : escaped a ++ 34 ∷ [] ≡ escaped b ++ 34 ∷ [] = cc in escaped_same a b p q inner
