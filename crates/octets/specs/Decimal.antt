-- Numbers as decimal digits.
use Rattle.std.specs.Prelude.{◌≡◌, ◌≢◌, ℕ, ◌+◌, ◌*◌, ◌-◌, List, [], fold}
use Rattle.std.specs.List.{AllPass}
use Rattle.octets.specs.Ascii.{is_digit}

-- a number with one more digit at its end
abbrev pub with_digit : ℕ → ℕ → ℕ
with_digit number digit = number * 10 + (digit - 48)

-- the number that these digits write, the most significant one first
abbrev pub number_of : List ℕ → ℕ
number_of digits = fold with_digit 0 digits

-- one or more digits, perhaps with leading zeros, that write this number
pub record Writes (text : List ℕ) (number : ℕ) : Type 0 where
  pub present : text ≢ []
  pub digits : AllPass is_digit text
  pub value : number_of text ≡ number
