-- What digits write grows with each digit.
use Rattle.std.proofs.Common.{◌≡◌, ℕ, ◌+◌, ◌-◌, ◌*◌, ◌≤◌, List, [], ◌∷◌, take, drop, sym, ◌∙◌, ap, arith, take-append-drop}
use Rattle.std.specs.List.{fold}
use Rattle.std.proofs.lemmas.List.Sums.{fold-append}
use Rattle.octets.specs.Decimal.{with_digit, number_of}

grows : (a : ℕ) (xs : List ℕ) → a ≤ fold with_digit a xs
grows a [] = omega arith
grows a (x ∷ xs) = omega (arith, grows (a * 10 + (x - 48)) xs)

-- a front of the digits writes no more than all of them
pub number_of-front : (i : ℕ) (xs : List ℕ) → number_of (take i xs) ≤ number_of xs
number_of-front i xs =
    let whole : number_of xs ≡ fold with_digit (number_of (take i xs)) (drop i xs) = ap number_of (sym (take-append-drop i xs)) ∙ fold-append with_digit 0 (take i xs) (drop i xs) in
    omega (arith, grows (number_of (take i xs)) (drop i xs))
