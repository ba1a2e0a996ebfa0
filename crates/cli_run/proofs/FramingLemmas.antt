-- An input has at most one count, which its leading digits write.
use Rattle.std.proofs.Common.{◌≡◌, ℕ, ◌*◌, ◌^◌, ◌<◌, ◌≤◌, fold, lit<, true, List, [], ◌∷◌, ◌++◌, refl, sym, ap, ◌∙◌, subst, length, take, drop, arith, mul_assoc}
use Rattle.std.proofs.lemmas.List.Elements.{All-head, All-tail}
use Rattle.std.proofs.Math.Seq.{take-append_seam, drop-append_seam}
use Rattle.std.specs.List.{prefix_len, AllPass}
use Rattle.octets.specs.Ascii.{is_digit}
use Rattle.std.proofs.Math.Nat.{pow-succ', pow-le-pow_right}
use Rattle.octets.specs.Decimal.{Writes, number_of, with_digit}
use Rattle.cli_run.specs.Framing.{HasCountLine}

-- digits before a line feed are all the leading digits
digits_run : (digits rest : List ℕ) → AllPass is_digit digits → prefix_len is_digit (digits ++ 10 ∷ rest) ≡ length digits
digits_run [] rest each = refl
digits_run (digit ∷ more) rest each = rw (All-head (λ x. is_digit x ≡ true) digit more each) (omega (arith, digits_run more rest (All-tail (λ x. is_digit x ≡ true) digit more each)))

-- a count, as the leading digits tell it
pub record IsCut (input : List ℕ) (number : ℕ) (rest : List ℕ) : Type 0 where
  pub short : prefix_len is_digit input ≤ 9
  pub written : Writes (take (prefix_len is_digit input) input) number
  pub after : drop (prefix_len is_digit input) input ≡ 10 ∷ rest

pub cut : (input : List ℕ) (number : ℕ) (rest : List ℕ) → HasCountLine input number rest → IsCut input number rest
cut input number rest counts =
    let run : prefix_len is_digit input ≡ length counts.digits = ap (prefix_len is_digit) counts.spelled ∙ digits_run counts.digits rest counts.written.digits in
    record {
      short = omega (arith, run, counts.short);
      written = subst (λ text. Writes text number) (sym (ap (λ n. take n input) run ∙ ap (take (length counts.digits)) counts.spelled ∙ take-append_seam counts.digits (10 ∷ rest))) counts.written;
      after = ap (λ n. drop n input) run ∙ ap (drop (length counts.digits)) counts.spelled ∙ drop-append_seam counts.digits (10 ∷ rest);
    }

-- two counts of one input are one
pub counts_only : (input : List ℕ) (m n : ℕ) (xs ys : List ℕ) → HasCountLine input m xs → HasCountLine input n ys → (m ≡ n) × (xs ≡ ys)
counts_only input m n xs ys first second =
    let a = cut input m xs first in
    let b = cut input n ys second in
    (sym a.written.value ∙ b.written.value, ap (drop 1) (sym a.after ∙ b.after))

-- each further digit is less than one place more
places : (digits : List ℕ) (number bound : ℕ) → AllPass is_digit digits → number < bound → fold with_digit number digits < bound * 10 ^ length digits
places [] number bound each below = omega (arith, below)
places (digit ∷ more) number bound each below =
    let is_one = All-head (λ x. is_digit x ≡ true) digit more each in
    let small : digit ≤ 57 = grind (arith, is_one) in
    let others = places more (with_digit number digit) (bound * 10) (All-tail (λ x. is_digit x ≡ true) digit more each) (omega (arith, below, small)) in
    let power = 10 ^ length more in
    subst (λ (n : ℕ). fold with_digit (with_digit number digit) more < n) (mul_assoc bound 10 power ∙ ap (λ n. bound * n) (sym (pow-succ' 10 (length more)))) others

-- a count is small
pub counts_small : (input : List ℕ) (number : ℕ) (rest : List ℕ) → HasCountLine input number rest → number < 2 ^ 64
counts_small input number rest counts =
    let digits = counts.digits in
    let below : number_of digits < 1 * 10 ^ length digits = places digits 0 1 counts.written.digits (lit< tt) in
    let few : 10 ^ length digits ≤ 10 ^ 9 = pow-le-pow_right (lit< tt) counts.short in
    omega (arith, below, few, counts.written.value)
