-- Numbers in decimal: what writes one, and what is read of it.
use Rattle.std.proofs.Common.{◌≡◌, ◌≢◌, ℕ, ◌-◌, ◌+◌, ◌*◌, ◌/◌, ◌%◌, ◌^◌, ◌<◌, ◌==◌, ◌&&◌, ◌⊎◌, inl, inr, not, cond, Bool, true, false, List, [], ◌∷◌, ◌++◌, length, decimal, Some, None, refl, sym, ap, ◌∙◌, subst, arith}
use Rattle.std.specs.Prelude.{nat_lt}
use Rattle.std.specs.List.{list_all}
use Rattle.std.proofs.lemmas.Bool.{and_parts, ne_eqb, le-leb, lt-ltb, ltb-true}
use Rattle.std.proofs.lemmas.Fmt.{decimal_by_steps, decimal_nonempty}
use Rattle.std.proofs.lemmas.List.Folds.{list_all-append}
use Rattle.std.proofs.lemmas.List.Sums.{AllPass-from_list_all, fold-append}
use Rattle.octets.specs.Ascii.{is_digit}
use Rattle.octets.specs.Decimal.{with_digit, number_of, Writes}
use Rattle.store_text.specs.Netstring.{other, same_text, decimal_in}
use Rattle.store_text.proofs.CutLemmas.{both_true}

digit_is : (d : ℕ) → d < 10 → is_digit (48 + d) ≡ true
digit_is d small = both_true _ _ (le-leb 48 (48 + d) (omega arith)) (le-leb (48 + d) 57 (omega arith))

digit_other : (mark : ℕ) → (mark < 48) ⊎ (57 < mark) → (d : ℕ) → d < 10 → other mark (48 + d) ≡ true
digit_other mark apart d small = ap not (ne_eqb (48 + d) mark (λ same. absurd (elim apart [ inl low ↦ omega (arith, same, low) | inr high ↦ omega (arith, same, high) ])))

-- no such mark is in a number
markless : (mark : ℕ) → (mark < 48) ⊎ (57 < mark) → (n : ℕ) → n < 2 ^ 64 → list_all (other mark) (decimal n) ≡ true
markless mark apart = decimal_by_steps (λ n ds. list_all (other mark) ds ≡ true) (λ n small. both_true _ _ (digit_other mark apart n small) refl)
    (λ n ds big is. list_all-append (other mark) ds ((48 + n % 10) ∷ []) ∙ both_true _ _ is (both_true _ _ (digit_other mark apart (n % 10) (omega arith)) refl))

-- no colon is in a number, and no LF
pub colonless : (n : ℕ) → n < 2 ^ 64 → list_all (other 58) (decimal n) ≡ true
colonless = markless 58 (inr (omega arith))

pub feedless : (n : ℕ) → n < 2 ^ 64 → list_all (other 10) (decimal n) ≡ true
feedless = markless 10 (inl (omega arith))

-- the digits of a number write it
record AreDigitsOf (n : ℕ) (ds : List ℕ) : Type 0 where
  pass : list_all is_digit ds ≡ true
  value : number_of ds ≡ n

digits_of : (n : ℕ) → n < 2 ^ 64 → AreDigitsOf n (decimal n)
digits_of = decimal_by_steps AreDigitsOf (λ n small. record { pass = both_true _ _ (digit_is n small) refl; value = omega arith }) (λ n ds big are. record {
  pass = list_all-append is_digit ds ((48 + n % 10) ∷ []) ∙ both_true _ _ are.pass (both_true _ _ (digit_is (n % 10) (omega arith)) refl);
  value =
      let one : number_of (ds ++ (48 + n % 10) ∷ []) ≡ number_of ds * 10 + (48 + n % 10 - 48) = fold-append with_digit 0 ds ((48 + n % 10) ∷ []) in
      let was : number_of ds ≡ n / 10 = are.value in
      omega (arith, one, was);
})

some_there : (ds : List ℕ) → 0 < length ds → ds ≢ []
some_there [] some is = omega (arith, some)
some_there (d ∷ ds) some is = let never = is in cc

decimal_writes : (n : ℕ) → n < 2 ^ 64 → Writes (decimal n) n
decimal_writes n small = record {
  present = some_there (decimal n) (decimal_nonempty n small);
  digits = AllPass-from_list_all is_digit (decimal n) (digits_of n small).pass;
  value = (digits_of n small).value;
}

-- ---- texts that are the same

pub same_itself : (t : List ℕ) → same_text t t ≡ true
same_itself [] = refl
same_itself (x ∷ t) = both_true (x == x) (same_text t t) (grind arith) (same_itself t)

pub same_is : (a b : List ℕ) → same_text a b ≡ true → a ≡ b
same_is [] [] is = refl
same_is [] (y ∷ b) is = absurd (let no = is in cc)
same_is (x ∷ a) [] is = absurd (let no = is in cc)
same_is (x ∷ a) (y ∷ b) is =
    let parts = and_parts (x == y) (same_text a b) is in
    let first : x ≡ y = (let e = parts.0 in grind (arith, e)) in
    ap (λ o. o ∷ a) first ∙ ap (λ t. y ∷ t) (same_is a b parts.1)

-- ---- what is read of a number

chosen : {X : Type 0} (b : Bool) (x y : X) → cond b (Some x) None ≡ Some y → (b ≡ true) × (x ≡ y)
chosen true x y is = (refl, let same = is in cc)
chosen false x y is = absurd (let no = is in cc)

pub number_written : (text : List ℕ) (n : ℕ) → decimal_in text ≡ Some n → (text ≡ decimal n) × (n < 2 ^ 63)
unfolding decimal_in
number_written text n is =
    let found = chosen (nat_lt (number_of text) (2 ^ 63) && same_text text (decimal (number_of text))) (number_of text) n is in
    let parts = and_parts (nat_lt (number_of text) (2 ^ 63)) (same_text text (decimal (number_of text))) found.0 in
    (same_is text (decimal (number_of text)) parts.1 ∙ ap decimal found.1, subst (λ k. k < 2 ^ 63) found.1 (ltb-true (number_of text) (2 ^ 63) parts.0))

pub number_again : (n : ℕ) → n < 2 ^ 63 → decimal_in (decimal n) ≡ Some n
unfolding decimal_in
number_again n small =
    let is : number_of (decimal n) ≡ n = (digits_of n (omega arith)).value in
    let passes : (nat_lt (number_of (decimal n)) (2 ^ 63) && same_text (decimal n) (decimal (number_of (decimal n)))) ≡ true =
    both_true _ _ (lt-ltb (number_of (decimal n)) (2 ^ 63) (omega (arith, is))) (ap (λ k. same_text (decimal n) (decimal k)) is ∙ same_itself (decimal n)) in
    rw passes (ap Some is)

-- where no number below 2^64 is written, none is read
pub number_lost : (text : List ℕ) → ((n : ℕ) → n < 2 ^ 64 → Writes text n → ⊥) → decimal_in text ≡ None
unfolding decimal_in
number_lost text none = go (nat_lt (number_of text) (2 ^ 63) && same_text text (decimal (number_of text))) refl
  where
    go : (b : Bool) → (nat_lt (number_of text) (2 ^ 63) && same_text text (decimal (number_of text))) ≡ b → cond b (Some (number_of text)) None ≡ None
    go false is = refl
    go true is =
        let parts = and_parts (nat_lt (number_of text) (2 ^ 63)) (same_text text (decimal (number_of text))) is in
        let less : number_of text < 2 ^ 63 = ltb-true (number_of text) (2 ^ 63) parts.0 in
        let spelled : text ≡ decimal (number_of text) = same_is text (decimal (number_of text)) parts.1 in
        absurd (none (number_of text) (omega arith) (subst (λ t. Writes t (number_of text)) (sym spelled) (decimal_writes (number_of text) (omega arith))))
