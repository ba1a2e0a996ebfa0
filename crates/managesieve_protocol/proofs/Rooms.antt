-- How many octets of literals may still come.
use Rattle.std.proofs.Common.{◌≡◌, ℕ, ◌+◌, ◌-◌, ◌≤◌, ◌^◌, Bool, true, false, ◌||◌, ◌&&◌, ◌==◌, cond, List, [], ◌∷◌, ◌++◌, Option, Some, None, refl, subst, arith, inl, inr}
use Rattle.std.specs.Prelude.{nat_lt, nat_le}
use Rattle.std.specs.Char.{to_ascii_uppercase, is_ascii_digit}
use Rattle.std.proofs.lemmas.Bool.{eqb-false, leb-true, ltb-false, and_parts, and_cases, both_ways}
use Rattle.octets.specs.Decimal.{with_digit}
use Rattle.managesieve_protocol.specs.Arguments.{is_quotable_octet}
use Rattle.managesieve_protocol.specs.Machine.{Params, LineEnd, MaybeText, ThenText, ThenNumber, rows, begins_row, params_in, LineState, Word, Between, Opening, Quoted, Escaped, Brace, Count, Plus, Closed, Return, Body, Number, Digits, LineFeed, Whole, Dead, after_space, after_return, leave, leave_named, longer, literal_left, step, is_large, weight, params_room, quoted_room}
use Rattle.managesieve_protocol.proofs.Names.{params_step}

either : (n : ℕ) (b : Bool) (s u : LineState) → (b ≡ true → quoted_room s ≤ n) → (b ≡ false → quoted_room u ≤ n) → quoted_room (cond b s u) ≤ n
either n true s u f g = f refl
either n false s u f g = g refl

-- ---- params

abbrev rows_small : List (List ℕ × Params) → Bool
rows_small [] = true
rows_small (row ∷ rs) = nat_le (params_room row.1) 2097152 && rows_small rs

small_in : (rs : List (List ℕ × Params)) (w : List ℕ) (s : Params) → rows_small rs ≡ true → params_in rs w ≡ Some s → params_room s ≤ 2097152
small_in [] w s small e = absurd cc
small_in (row ∷ rs) w s small e =
    let parts = and_parts (nat_le (params_room row.1) 2097152) (rows_small rs) small in
    elim (params_step (params_in rs w) row.0 w s row.1 e) [
      | inl h ↦ subst (λ (u : Params). params_room u ≤ 2097152) h.1 (leb-true (params_room row.1) 2097152 parts.0)
      | inr h ↦ small_in rs w s parts.1 h
    ]

named_small : (w : List ℕ) (s : Params) → params_in rows w ≡ Some s → params_room s ≤ 2097152
unfolding rows
named_small w s e = small_in rows w s refl e

space_room : (params : Params) → quoted_room (after_space params) ≤ params_room params
space_room LineEnd = omega arith
space_room MaybeText = omega arith
space_room (ThenText more) = omega arith
space_room ThenNumber = omega arith

return_room : (params : Params) → quoted_room (after_return params) ≤ params_room params
return_room LineEnd = omega arith
return_room MaybeText = omega arith
return_room (ThenText more) = omega arith
return_room ThenNumber = omega arith

leave_room : (params : Params) (x : ℕ) → quoted_room (leave params x) ≤ params_room params
leave_room params x =
    either (params_room params) (x == 32) (after_space params) _ (λ e. space_room params)
    (λ e. either (params_room params) (x == 13) (after_return params) Dead (λ d. return_room params) (λ d. omega arith))

named_room : (p : List ℕ) (o : Option Params) (x : ℕ) → params_in rows p ≡ o → quoted_room (leave_named o x) ≤ 2097152
named_room p None x e = omega arith
named_room p (Some params) x e = omega (arith, leave_room params x, named_small p params e)

-- ---- literals

left_room : (number : ℕ) (params : Params) → quoted_room (literal_left number params) ≤ number + params_room params
left_room number params =
    either (number + params_room params) (number == 0) (Between params) (Body (number - 1) params) (λ e. omega arith)
    (λ e. let some : number ≡ 0 → ⊥ = eqb-false number 0 e in omega (arith, some))

longer_room : (n : ℕ) (to : ℕ → LineState) (number x : ℕ) → ((m : ℕ) → quoted_room (to m) ≤ n) → quoted_room (longer to number x) ≤ n
longer_room n to number x f =
    either n (number == 0) Dead _ (λ e. omega arith)
    (λ e. either n (nat_lt (with_digit number x) (2 ^ 32)) (to (with_digit number x)) Dead (λ lt. f (with_digit number x)) (λ lt. omega arith))

not_large : (number x : ℕ) → (nat_lt 1048576 number && x == 10) ≡ false → (x == 10) ≡ true → number ≤ 1048576
not_large number x e feed =
    elim (and_cases (nat_lt 1048576 number) (x == 10) e) [ inl a ↦ ltb-false 1048576 number a | inr a ↦ absurd (both_ways (x == 10) a feed) ]

-- each octet takes its part of the room
pub room-step : (s : LineState) (x : ℕ) → (is_large s && x == 10) ≡ false → quoted_room (step s x) + 1 ≤ quoted_room s + weight s
room-step (Word p) x e =
    let below = either 2097152 (begins_row rows (p ++ to_ascii_uppercase x ∷ [])) (Word (p ++ to_ascii_uppercase x ∷ [])) (leave_named (params_in rows p) x) (λ a. omega arith) (λ a. named_room p (params_in rows p) x refl) in
    omega (arith, below)
room-step (Between params) x e = omega (arith, leave_room params x)
room-step (Opening params) x e =
    let n = 1048576 + params_room params in
    let below = either n (x == 34) (Quoted 1024 params) (cond (x == 123) (Brace params) Dead) (λ a. omega arith) (λ a. either n (x == 123) (Brace params) Dead (λ d. omega arith) (λ d. omega arith)) in
    omega (arith, below)
room-step (Quoted left params) x e =
    let n = params_room params in
    let below : quoted_room (step (Quoted left params) x) ≤ n = either n (x == 34) (Between params) _ (λ a. omega arith)
    (λ a. either n (x == 92) (cond (nat_lt 1 left) (Escaped (left - 2) params) Dead) _
    (λ d. either n (nat_lt 1 left) (Escaped (left - 2) params) Dead (λ c. omega arith) (λ c. omega arith))
    (λ d. either n (is_quotable_octet x && nat_lt 0 left) (Quoted (left - 1) params) Dead (λ c. omega arith) (λ c. omega arith))) in
    omega (arith, below)
room-step (Escaped left params) x e =
    let below = either (params_room params) (x == 34 || x == 92) (Quoted left params) Dead (λ a. omega arith) (λ a. omega arith) in
    omega (arith, below)
room-step (Brace params) x e =
    let below = either (1048576 + params_room params) (is_ascii_digit x) (Count (with_digit 0 x) params) Dead (λ a. omega arith) (λ a. omega arith) in
    omega (arith, below)
room-step (Count number params) x e =
    let n = 1048576 + params_room params in
    let below : quoted_room (step (Count number params) x) ≤ n = either n (x == 43) (Plus number params) _ (λ a. omega arith)
    (λ a. either n (is_ascii_digit x) (longer (λ m. Count m params) number x) Dead (λ d. longer_room n (λ m. Count m params) number x (λ m. omega arith)) (λ d. omega arith)) in
    omega (arith, below)
room-step (Plus number params) x e =
    let below = either (1048576 + params_room params) (x == 125) (Closed number params) Dead (λ a. omega arith) (λ a. omega arith) in
    omega (arith, below)
room-step (Closed number params) x e =
    let below = either (1048576 + params_room params) (x == 13) (Return number params) Dead (λ a. omega arith) (λ a. omega arith) in
    omega (arith, below)
room-step (Return number params) x e =
    let n = 1048576 + params_room params in
    let below = either n (x == 10) (literal_left number params) Dead (λ a. omega (arith, left_room number params, not_large number x e a)) (λ a. omega arith) in
    omega (arith, below)
room-step (Body left params) x e = omega (arith, left_room left params)
room-step Number x e =
    let below = either 0 (is_ascii_digit x) (Digits (with_digit 0 x)) Dead (λ a. omega arith) (λ a. omega arith) in
    omega (arith, below)
room-step (Digits number) x e =
    let below : quoted_room (step (Digits number) x) ≤ 0 = either 0 (x == 13) LineFeed _ (λ a. omega arith)
    (λ a. either 0 (is_ascii_digit x) (longer (λ m. Digits m) number x) Dead (λ d. longer_room 0 (λ m. Digits m) number x (λ m. omega arith)) (λ d. omega arith)) in
    omega (arith, below)
room-step LineFeed x e =
    let below = either 0 (x == 10) Whole Dead (λ a. omega arith) (λ a. omega arith) in
    omega (arith, below)
room-step Whole x e = omega arith
room-step Dead x e = omega arith
