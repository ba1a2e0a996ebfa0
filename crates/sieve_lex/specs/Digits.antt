-- The parts of a number, from the left.
use Rattle.std.specs.Prelude.{ℕ, cond, is_some, List, [], ◌∷◌}
use Rattle.sieve_lex.specs.Shape.{factor_of}

-- how many octets of a multiplier the text begins with: one or none
abbrev pub letter_len : List ℕ → ℕ
letter_len [] = 0
letter_len (b ∷ _) = cond (is_some (factor_of (b ∷ []))) 1 0
