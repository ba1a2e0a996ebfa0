-- The zones of scripts are a sign, hours and minutes.
use Rattle.std.proofs.Common.{◌≡◌, ℕ, ◌+◌, ◌-◌, ◌*◌, ◌/◌, ◌%◌, ◌<◌, ◌≤◌, ◌==◌, ◌&&◌, ◌⊎◌, true, Some, None, List, [], ◌∷◌, ◌++◌, take, drop, length, nat_le, refl, ap, sym, ◌∙◌, subst, inl, inr, arith, ℤ, pos, neg_ℤ}
use Rattle.std.specs.Option.{option_map}
use Rattle.std.proofs.lemmas.Bool.{eqb-true, ne_eqb}
use Rattle.std.proofs.lemmas.List.{take-append-drop}
use Rattle.std.proofs.lemmas.Bool.Decides.{nat_tests}
use Rattle.octets.specs.Ascii.{is_digit}
use Rattle.octets.specs.Decimal.{number_of}
use Rattle.octets.proofs.Lists.{some_is, fork}
use Rattle.mail_dates.specs.Words.{number_in, is_digits, two_digits}
use Rattle.mail_dates.specs.Zones.{offset_of, numeric_of, digits, IsOffset}
use Rattle.mail_dates.proofs.PieceLaws.{both_true}
use Rattle.mail_dates.proofs.WordLemmas.{map_some, then_some}

is_digit_of : (k : ℕ) → k < 10 → is_digit (48 + k) ≡ true
is_digit_of k small = grind (arith, nat_tests)

digit_of : (a : ℕ) → is_digit a ≡ true → (48 ≤ a) × (a ≤ 57)
digit_of a is = (grind (arith, nat_tests), grind (arith, nat_tests))

number_again : (n : ℕ) → n < 100 → number_of (digits n) ≡ n
number_again n small = omega arith

le_true : (m n : ℕ) → m ≤ n → nat_le m n ≡ true
le_true m n le = grind (arith, nat_tests)

true_le : (m n : ℕ) → nat_le m n ≡ true → m ≤ n
true_le m n le = grind (arith, nat_tests)

-- two digits write their number
pub two_again : (limit n : ℕ) → n ≤ limit → limit < 100 → two_digits limit (digits n) ≡ Some n
unfolding two_digits number_in
two_again limit n within small =
    rw (is_digit_of (n / 10) (omega arith), is_digit_of (n % 10) (omega arith), number_again n (omega arith), le_true n limit within) refl

two_word : (limit n a b : ℕ) → limit < 100 → (is_digit a && (is_digit b && true)) ≡ true → number_of (a ∷ (b ∷ [])) ≡ n → n ≤ limit → a ∷ (b ∷ []) ≡ digits n
two_word limit n a b small all number within =
    let first = both_true (is_digit a) (is_digit b && true) all in
    let next = both_true (is_digit b) true first.1 in
    let x = digit_of a first.0 in
    let y = digit_of b next.0 in
    let whole : (a - 48) * 10 + (b - 48) ≡ n = omega (arith, number) in
    let high : a ≡ 48 + n / 10 = omega (arith, x.0, x.1, y.0, y.1) in
    let low : b ≡ 48 + n % 10 = omega (arith, x.0, x.1, y.0, y.1) in
    rw (← high, ← low) refl

pub two_is : (limit n : ℕ) (word : List ℕ) → limit < 100 → two_digits limit word ≡ Some n → (word ≡ digits n) × (n ≤ limit)
unfolding two_digits number_in
two_is limit n [] small is = absurd (cc)
two_is limit n (a ∷ []) small is = absurd (cc)
two_is limit n (a ∷ (b ∷ [])) small is =
    elim (fork (is_digits (a ∷ (b ∷ [])) && nat_le (number_of (a ∷ (b ∷ []))) limit) (Some (number_of (a ∷ (b ∷ [])))) None (Some n) is) [
      | inl p ↦
          let both = both_true (is_digits (a ∷ (b ∷ []))) (nat_le (number_of (a ∷ (b ∷ []))) limit) p.0 in
          let number : number_of (a ∷ (b ∷ [])) ≡ n = some_is (number_of (a ∷ (b ∷ []))) n p.1 in
          let within : n ≤ limit = subst (λ (k : ℕ). k ≤ limit) number (true_le (number_of (a ∷ (b ∷ []))) limit both.1) in
          (two_word limit n a b small both.0 number within, within)
      | inr p ↦ absurd (cc)
    ]
two_is limit n (a ∷ (b ∷ (c ∷ more))) small is = let none : None ≡ Some n = rw (ne_eqb (length (a ∷ (b ∷ (c ∷ more)))) 2 (λ e. absurd (omega arith))) at is in absurd (cc)

four_is : (hours minutes : ℕ) (text : List ℕ) → take 2 text ≡ digits hours → drop 2 text ≡ digits minutes → text ≡ digits hours ++ digits minutes
four_is hours minutes text front back = sym (take-append-drop 2 text) ∙ (ap (λ t. t ++ drop 2 text) front ∙ ap (λ t. digits hours ++ t) back)

record IsHhmm (text : List ℕ) (n : ℕ) : Type 0 where
  hours : ℕ
  minutes : ℕ
  hour : hours < 24
  minute : minutes < 60
  is : text ≡ digits hours ++ digits minutes
  value : n ≡ hours * 60 + minutes

offset_is : (n : ℕ) (text : List ℕ) → offset_of text ≡ Some n → IsHhmm text n
unfolding offset_of
offset_is n text is =
    elim (fork (length text == 4) _ None (Some n) is) [
      | inl p ↦
          let h = then_some _ (two_digits 23 (take 2 text)) n p.1 in
          let m = map_some _ (two_digits 59 (drop 2 text)) n h.1.1 in
          let hours = two_is 23 h.0 (take 2 text) (omega arith) h.1.0 in
          let minutes = two_is 59 m.0 (drop 2 text) (omega arith) m.1.0 in
          record { hours = h.0; minutes = m.0; hour = omega (arith, hours.1); minute = omega (arith, minutes.1); is = four_is h.0 m.0 text hours.0 minutes.0; value = sym m.1.1 }
      | inr p ↦ absurd (cc)
    ]

offset_again : (hours minutes : ℕ) → hours < 24 → minutes < 60 → offset_of (digits hours ++ digits minutes) ≡ Some (hours * 60 + minutes)
unfolding offset_of
offset_again hours minutes hour minute = rw (two_again 23 hours (omega arith) (omega arith), two_again 59 minutes (omega arith) (omega arith)) refl

pub numeric_is : (text : List ℕ) (zone : ℤ) → numeric_of text ≡ Some zone → IsOffset text zone
unfolding numeric_of
numeric_is [] zone is = absurd (cc)
numeric_is (sign ∷ rest) zone is =
    elim (fork (sign == 43) (option_map pos (offset_of rest)) _ (Some zone) is) [
      | inl p ↦
          let m = map_some pos (offset_of rest) zone p.1 in
          let o = offset_is m.0 rest m.1.0 in
          record { hours = o.hours; minutes = o.minutes; hour = o.hour; minute = o.minute; spelled = inl (ap (λ s. s ∷ rest) (eqb-true sign 43 p.0) ∙ ap (λ t. 43 ∷ t) o.is, sym m.1.1 ∙ ap pos o.value) }
      | inr p ↦ elim (fork (sign == 45) (option_map (λ minutes. neg_ℤ (pos minutes)) (offset_of rest)) None (Some zone) p.1) [
        | inl q ↦
            let m = map_some (λ minutes. neg_ℤ (pos minutes)) (offset_of rest) zone q.1 in
            let o = offset_is m.0 rest m.1.0 in
            record { hours = o.hours; minutes = o.minutes; hour = o.hour; minute = o.minute; spelled = inr (ap (λ s. s ∷ rest) (eqb-true sign 45 q.0) ∙ ap (λ t. 45 ∷ t) o.is, sym m.1.1 ∙ ap (λ k. neg_ℤ (pos k)) o.value) }
        | inr q ↦ absurd (cc)
      ]
    ]

spelled_again : (hours minutes : ℕ) (text : List ℕ) (zone : ℤ) → hours < 24 → minutes < 60
    → ((text ≡ 43 ∷ (digits hours ++ digits minutes)) × (zone ≡ pos (hours * 60 + minutes))) ⊎ ((text ≡ 45 ∷ (digits hours ++ digits minutes)) × (zone ≡ neg_ℤ (pos (hours * 60 + minutes))))
    → numeric_of text ≡ Some zone
unfolding numeric_of
spelled_again hours minutes text zone hour minute (inl east) = rw (east.0, east.1, offset_again hours minutes hour minute) refl
spelled_again hours minutes text zone hour minute (inr west) = rw (west.0, west.1, offset_again hours minutes hour minute) refl

pub numeric_again : (text : List ℕ) (zone : ℤ) → IsOffset text zone → numeric_of text ≡ Some zone
numeric_again text zone is = spelled_again is.hours is.minutes text zone is.hour is.minute is.spelled
