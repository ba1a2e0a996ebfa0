-- The numbers that texts begin with, and their order (RFC 4790, 9.1).
use Rattle.std.specs.Prelude.{◌≡◌, ℕ, ◌<◌, false, cond, List, [], ◌∷◌, ◌++◌, Option, Some, None}
use Rattle.std.specs.List.{AllPass}
use Rattle.octets.specs.Ascii.{is_digit}
use Rattle.octets.specs.Decimal.{number_of, Writes}

-- the text doesn't begin with a digit
abbrev pub HasNoDigit : List ℕ → Type 0
HasNoDigit [] = Unit {0}
HasNoDigit (octet ∷ rest) = is_digit octet ≡ false

-- a text begins with digits that write a number, and no digit follows them
pub record BeginsWithNumber (text : List ℕ) (number : ℕ) : Type 0 where
  pub digits : List ℕ
  pub rest : List ℕ
  pub spelled : text ≡ digits ++ rest
  pub writes : Writes digits number
  pub ends : HasNoDigit rest

-- what a text stands for: the number that it begins with; one that begins with no digit is positive infinity, which is None here
abbrev pub StandsForNumber : List ℕ → Option ℕ → Type 0
StandsForNumber text (Some number) = BeginsWithNumber text number
StandsForNumber text None = HasNoDigit text

-- one is less than the other; infinity is less than nothing
abbrev pub IsLessNumber : Option ℕ → Option ℕ → Type 0
IsLessNumber (Some one) (Some other) = one < other
IsLessNumber (Some one) None = Unit {0}
IsLessNumber None _ = ⊥

-- what a text stands for is less than what another does
pub record IsBelow (text other : List ℕ) : Type 0 where
  pub one : Option ℕ
  pub two : Option ℕ
  pub is : StandsForNumber text one
  pub other_is : StandsForNumber other two
  pub less : IsLessNumber one two

-- two texts stand for the same number, or both for infinity
abbrev pub EqualNumbers : List ℕ → List ℕ → Type 0
EqualNumbers text other = (both : Option ℕ) × StandsForNumber text both × StandsForNumber other both

-- the digits at the beginning of a text
abbrev pub digits_of : List ℕ → List ℕ
digits_of [] = []
digits_of (octet ∷ rest) = cond (is_digit octet) (octet ∷ digits_of rest) []

-- the number that digits write, if there are any
abbrev pub number_if_any : List ℕ → Option ℕ
number_if_any [] = None
number_if_any (digit ∷ more) = Some (number_of (digit ∷ more))

-- what a text stands for: the one that is in StandsFor with it
abbrev pub number_at : List ℕ → Option ℕ
number_at text = number_if_any (digits_of text)

-- the first digit isn't zero
abbrev pub HasNoZero : List ℕ → Type 0
HasNoZero [] = Unit {0}
HasNoZero (digit ∷ more) = 48 < digit

-- digits without leading zeros
pub record ArePlainDigits (digits : List ℕ) : Type 0 where
  pub all : AllPass is_digit digits
  pub first : HasNoZero digits
