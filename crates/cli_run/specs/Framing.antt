-- How the input of the program is split: a line with the script's length, the script, the message.
use Rattle.std.specs.Prelude.{◌≡◌, ℕ, ◌≤◌, List, ◌∷◌, ◌++◌, length}
use Rattle.octets.specs.Decimal.{Writes}

-- a line of one to nine digits that write this number, and what follows it
pub record HasCountLine (input : List ℕ) (number : ℕ) (rest : List ℕ) : Type 0 where
  pub digits : List ℕ
  pub written : Writes digits number
  pub short : length digits ≤ 9
  pub spelled : input ≡ digits ++ 10 ∷ rest

-- a line with how many octets the script has, that many octets of script, and the message to the end
abbrev pub IsFramed : List ℕ → List ℕ → List ℕ → Type 0
IsFramed input script message = HasCountLine input (length script) (script ++ message)
