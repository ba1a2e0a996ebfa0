-- Lemmas on the words of specs/Decimal.
use Rattle.std.proofs.Common.{◌≡◌, ◌<◌, ◌≤◌, ◌∙◌, ℕ, List, [], ◌∷◌, take, drop, sym, ap, subst, arith, length, ◌+◌, ◌*◌, ◌-◌, get_or}
use Rattle.std.proofs.lemmas.List.{take-append-drop}
use Rattle.std.proofs.lemmas.List.Sums.{fold-append, fold_more}
use Rattle.std.specs.List.{fold}
use Rattle.octets.specs.Decimal.{with_digit, number_of}

-- more digits make no number smaller
grows : (number : ℕ) (digits : List ℕ) → number ≤ fold with_digit number digits
grows number [] = omega arith
grows number (digit ∷ rest) = omega (arith, grows (with_digit number digit) rest)

-- what the first digits write is no more than what all of them write
pub number_of-take : (digits : List ℕ) (n : ℕ) → number_of (take n digits) ≤ number_of digits
number_of-take digits n =
    let whole : number_of digits ≡ fold with_digit (number_of (take n digits)) (drop n digits) =
    ap number_of (sym (take-append-drop n digits)) ∙ fold-append with_digit 0 (take n digits) (drop n digits) in
    subst (λ (w : ℕ). number_of (take n digits) ≤ w) (sym whole) (grows (number_of (take n digits)) (drop n digits))

-- one digit more
pub number_of-more : (digits : List ℕ) (n : ℕ) → n < length digits → number_of (take (n + 1) digits) ≡ number_of (take n digits) * 10 + (get_or digits n 0 - 48)
number_of-more digits n h = fold_more with_digit 0 digits n 0 h
