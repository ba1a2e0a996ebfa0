-- The inside of a quoted string, read from left to right.
use Rattle.std.specs.Prelude.{ℕ, ◌==◌, ◌&&◌, ◌||◌, not, Bool, cond, Option, Some, None, List, [], ◌∷◌, ◌++◌}
use Rattle.sieve_lex.specs.declared.quoted.Mode.{Mode}
use Rattle.sieve_lex.specs.declared.quoted.Mode.TheVariants.{Inside, Escape, Return}

-- a value and what is left, with these octets before the value
abbrev pub onto : List ℕ → Option (List ℕ × List ℕ) → Option (List ℕ × List ℕ)
onto front None = None
onto front (Some r) = Some (front ++ r.0, r.1)

-- an octet that stands for itself, whatever is around it
abbrev pub is_plain_octet : ℕ → Bool
is_plain_octet octet = not (octet == 34) && (not (octet == 92) && (not (octet == 13) && not (octet == 10)))

-- what a string stands for and what follows its closing quotation mark, from any position inside it on
abbrev pub string_from : Mode → List ℕ → Option (List ℕ × List ℕ)
string_from mode [] = None
string_from Inside (b ∷ s) =
    cond (b == 34) (Some ([], s))
    (cond (b == 92) (string_from Escape s)
    (cond (b == 13) (string_from Return s)
    (cond (b == 10) (onto (13 ∷ (10 ∷ [])) (string_from Inside s))
    (onto (b ∷ []) (string_from Inside s)))))
string_from Escape (b ∷ s) = cond (b == 0 || (b == 13 || b == 10)) None (onto (b ∷ []) (string_from Inside s))
string_from Return (b ∷ s) = cond (b == 10) (onto (13 ∷ (10 ∷ [])) (string_from Inside s)) None
