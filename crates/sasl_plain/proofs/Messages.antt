-- The parts of a message are those that it is made of.
use Rattle.std.proofs.Common.{◌≡◌, ◌≢◌, ℕ, zero, suc, ◌+◌, ◌<◌, ◌≤◌, ◌⊎◌, inl, inr, Bool, true, false, not, ◌||◌, ◌&&◌, ◌==◌, cond, List, [], ◌∷◌, ◌++◌, length, take, drop, Some, None, refl, sym, ap, ◌∙◌, subst, arith, append_assoc}
use Rattle.std.specs.Prelude.{nat_eq, nat_lt}
use Rattle.std.specs.Cmp.Lexicographic.{pointwise}
use Rattle.std.proofs.lemmas.Bool.{eqb-true, eqb-false, ne_eqb, eq-eqb, le-ltb, ltb-false, and_parts, and_cases, and_right, or_parts, or_from, not-false}
use Rattle.std.proofs.lemmas.List.{take_at, drop_at, length-append, nil_from_length}
use Rattle.sasl_plain.specs.Login.{NoNul, IsMessage}
use Rattle.sasl_plain.specs.Parts.{TextPair, nul_place, cut_in, checked, cut_twice, login_in}

-- ---- the first NUL

place_small : (t : List ℕ) → nul_place t ≤ length t
place_small [] = omega arith
place_small (x ∷ t) = go (x == 0) (place_small t)
  where
    go : (b : Bool) → nul_place t ≤ length t → cond b zero (suc (nul_place t)) ≤ suc (length t)
    go true h = omega arith
    go false h = omega (arith, h)

place_at : (a b : List ℕ) → NoNul a → nul_place (a ++ 0 ∷ b) ≡ length a
place_at [] b h = refl
place_at (x ∷ a) b h = let other : (x == 0) ≡ false = ne_eqb x 0 h.0 in rw other (ap suc (place_at a b h.1))

place_none : (t : List ℕ) → NoNul t → nul_place t ≡ length t
place_none [] h = refl
place_none (x ∷ t) h = let other : (x == 0) ≡ false = ne_eqb x 0 h.0 in rw other (ap suc (place_none t h.1))

none_before : (t : List ℕ) → NoNul (take (nul_place t) t)
none_before [] = tt
none_before (x ∷ t) = go (x == 0) refl (none_before t)
  where
    go : (b : Bool) → (x == 0) ≡ b → NoNul (take (nul_place t) t) → NoNul (take (cond b zero (suc (nul_place t))) (x ∷ t))
    go true e h = tt
    go false e h = (eqb-false x 0 e, h)

none_at_all : (t : List ℕ) → nul_place t ≡ length t → NoNul t
none_at_all [] e = tt
none_at_all (x ∷ t) e = go (x == 0) refl e (none_at_all t)
  where
    go : (b : Bool) → (x == 0) ≡ b → cond b zero (suc (nul_place t)) ≡ suc (length t) → (nul_place t ≡ length t → NoNul t) → NoNul (x ∷ t)
    go true d e f = absurd (omega (arith, e))
    go false d e f = (eqb-false x 0 d, f (omega (arith, e)))

split_at_nul : (t : List ℕ) → nul_place t < length t → t ≡ take (nul_place t) t ++ 0 ∷ drop (suc (nul_place t)) t
split_at_nul [] lt = absurd (omega (arith, lt))
split_at_nul (x ∷ t) lt = go (x == 0) refl lt (split_at_nul t)
  where
    go : (b : Bool) → (x == 0) ≡ b → cond b zero (suc (nul_place t)) < suc (length t) → (nul_place t < length t → t ≡ take (nul_place t) t ++ 0 ∷ drop (suc (nul_place t)) t) → x ∷ t ≡ take (cond b zero (suc (nul_place t))) (x ∷ t) ++ 0 ∷ drop (suc (cond b zero (suc (nul_place t)))) (x ∷ t)
    go true d lt f = ap (λ (y : ℕ). y ∷ t) (eqb-true x 0 d)
    go false d lt f = ap (λ (u : List ℕ). x ∷ u) (f (omega (arith, lt)))

-- ---- cuts

cut_at : (a b : List ℕ) → NoNul a → cut_in (a ++ 0 ∷ b) ≡ Some (a, b)
cut_at a b h =
    let place = place_at a b h in
    let more : (length a == length (a ++ 0 ∷ b)) ≡ false = ne_eqb _ _ (λ e. absurd (omega (arith, e, length-append a (0 ∷ b)))) in
    let next : length a + 1 ≡ length (a ++ 0 ∷ []) = sym (length-append a (0 ∷ [])) in
    let after : drop (length a + 1) (a ++ 0 ∷ b) ≡ b =
    ap (λ (n : ℕ). drop n (a ++ 0 ∷ b)) next ∙ ap (drop (length (a ++ 0 ∷ []))) (sym (append_assoc a (0 ∷ []) b)) ∙ drop_at (a ++ 0 ∷ []) b (length (a ++ 0 ∷ [])) refl in
    rw (place, more, take_at a (0 ∷ b) (length a) refl, after) refl

-- equal present pairs have equal parts
some_pair : (p q : List ℕ × List ℕ) → Some p ≡ Some q → (p.0 ≡ q.0) × (p.1 ≡ q.1)
some_pair p q same = let pairs : p ≡ q = cc in (ap (λ (r : List ℕ × List ℕ). r.0) pairs, ap (λ (r : List ℕ × List ℕ). r.1) pairs)

record IsCut (text first rest : List ℕ) : Type 0 where
  without : NoNul first
  written : text ≡ first ++ 0 ∷ rest

is_cut : (t a b : List ℕ) → cut_in t ≡ Some (a, b) → IsCut t a b
is_cut t a b e = go (nul_place t == length t) refl e
  where
    go : (d : Bool) → (nul_place t == length t) ≡ d → cond {A = TextPair} d None (Some (take (nul_place t) t, drop (nul_place t + 1) t)) ≡ Some (a, b) → IsCut t a b
    go true d e = absurd cc
    go false d e =
        let lt : nul_place t < length t = omega (arith, place_small t, eqb-false (nul_place t) (length t) d) in
        let pair = some_pair (take (nul_place t) t, drop (nul_place t + 1) t) (a, b) e in
        let first : take (nul_place t) t ≡ a = pair.0 in
        let rest : drop (nul_place t + 1) t ≡ b = pair.1 in
        let same : suc (nul_place t) ≡ nul_place t + 1 = omega arith in
        record {
          without = subst NoNul first (none_before t);
          written = split_at_nul t lt ∙ ap (λ (u : List ℕ). u ++ 0 ∷ drop (suc (nul_place t)) t) first ∙ ap (λ (n : ℕ). a ++ 0 ∷ drop n t) same ∙ ap (λ (u : List ℕ). a ++ 0 ∷ u) rest;
        }

-- ---- checks

same_text : (a b : List ℕ) → pointwise nat_eq a b ≡ true → a ≡ b
same_text [] [] e = refl
same_text [] (y ∷ b) e = absurd cc
same_text (x ∷ a) [] e = absurd cc
same_text (x ∷ a) (y ∷ b) e =
    let parts = and_parts (x == y) (pointwise nat_eq a b) e in
    ap (λ (z : ℕ). z ∷ a) (eqb-true x y parts.0) ∙ ap (λ (u : List ℕ). y ∷ u) (same_text a b parts.1)

text-self : (a : List ℕ) → pointwise nat_eq a a ≡ true
text-self [] = refl
text-self (x ∷ a) = let here : (x == x) ≡ true = eq-eqb x x refl in rw here (text-self a)

some_octets : (a : List ℕ) → (length a == 0) ≡ false → a ≢ []
some_octets a e none = eqb-false (length a) 0 e (ap length none)

has_octets : (a : List ℕ) → a ≢ [] → (length a == 0) ≡ false
has_octets a some = ne_eqb (length a) 0 (λ e. some (nil_from_length a e))

-- a message is made of the parts that are read from it
said : (message user password : List ℕ) → IsMessage message user password → login_in message ≡ Some (user, password)
said message user password h =
    let free : NoNul h.authzid = elim h.same [ inl e ↦ subst NoNul (sym e) tt | inr e ↦ subst NoNul (sym e) h.user_without ] in
    let first : cut_in message ≡ Some (h.authzid, user ++ 0 ∷ password) = ap cut_in h.written ∙ cut_at h.authzid (user ++ 0 ∷ password) free in
    let second : cut_in (user ++ 0 ∷ password) ≡ Some (user, password) = cut_at user password h.user_without in
    let bad : (length user == 0 || length password == 0 || nat_lt (nul_place password) (length password)) ≡ false =
    or_from (length user == 0 || length password == 0) (nat_lt (nul_place password) (length password))
    (or_from (length user == 0) (length password == 0) (has_octets user h.user_is_some) (has_octets password h.password_is_some))
    (le-ltb (nul_place password) (length password) (omega (arith, place_none password h.password_without))) in
    let other : (not (length h.authzid == 0) && not (pointwise nat_eq h.authzid user)) ≡ false =
    elim h.same [
      | inl e ↦ rw e refl
      | inr e ↦ rw (e, text-self user) (and_right (not (length user == 0)) false refl)
    ] in
    ap cut_twice first ∙ ap (checked h.authzid) second ∙ rw (bad, other) refl

pub login_said : (message user password : List ℕ) → IsMessage message user password → login_in message ≡ Some (user, password)
login_said = said

-- what is read from a message is what it is made of
read_checked : (message authzid rest user password : List ℕ) → IsCut message authzid rest → checked authzid (cut_in rest) ≡ Some (user, password) → IsMessage message user password
read_checked message authzid rest user password cut e = go (cut_in rest) refl e
  where
    go : (p : TextPair) → cut_in rest ≡ p → checked authzid p ≡ Some (user, password) → IsMessage message user password
    go None d e = absurd cc
    go (Some (u, q)) d e = by_tests (length u == 0 || length q == 0 || nat_lt (nul_place q) (length q)) refl (not (length authzid == 0) && not (pointwise nat_eq authzid u)) refl e
      where
        by_tests : (a : Bool) → (length u == 0 || length q == 0 || nat_lt (nul_place q) (length q)) ≡ a → (b : Bool) → (not (length authzid == 0) && not (pointwise nat_eq authzid u)) ≡ b → cond {A = TextPair} a None (cond {A = TextPair} b None (Some (u, q))) ≡ Some (user, password) → IsMessage message user password
        by_tests true ea b eb e = absurd cc
        by_tests false ea true eb e = absurd cc
        by_tests false ea false eb e =
            let parts = or_parts (length u == 0 || length q == 0) (nat_lt (nul_place q) (length q)) ea in
            let empties = or_parts (length u == 0) (length q == 0) parts.0 in
            let second = is_cut rest u q d in
            let pair = some_pair (u, q) (user, password) e in
            let user_is : u ≡ user = pair.0 in
            let password_is : q ≡ password = pair.1 in
            let same : (authzid ≡ []) ⊎ (authzid ≡ u) =
            elim (and_cases (not (length authzid == 0)) (not (pointwise nat_eq authzid u)) eb) [
              | inl n ↦ inl (nil_from_length authzid (eqb-true (length authzid) 0 (not-false (length authzid == 0) n)))
              | inr n ↦ inr (same_text authzid u (not-false (pointwise nat_eq authzid u) n))
            ] in
            let made : IsMessage message u q = record {
              authzid = authzid;
              same = same;
              user_is_some = some_octets u empties.0;
              user_without = second.without;
              password_is_some = some_octets q empties.1;
              password_without = none_at_all q (omega (arith, place_small q, ltb-false (nul_place q) (length q) parts.1));
              written = cut.written ∙ ap (λ (t : List ℕ). authzid ++ 0 ∷ t) second.written;
            } in
            subst (λ (v : List ℕ). IsMessage message v password) user_is (subst (λ (v : List ℕ). IsMessage message u v) password_is made)

pub login_read : (message user password : List ℕ) → login_in message ≡ Some (user, password) → IsMessage message user password
login_read message user password e = go (cut_in message) refl e
  where
    go : (p : TextPair) → cut_in message ≡ p → cut_twice p ≡ Some (user, password) → IsMessage message user password
    go None d e = absurd cc
    go (Some (a, rest)) d e = read_checked message a rest user password (is_cut message a rest d) e
