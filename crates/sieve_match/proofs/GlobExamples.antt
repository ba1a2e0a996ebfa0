-- The definitions at a few patterns: what they fit, and what is near it that they don't.
use Rattle.std.proofs.Common.{refl, ◌≡◌, [], ◌∷◌, arith}
use Rattle.std.specs.Char.{to_ascii_uppercase}
use Rattle.sieve_match.specs.Glob.{items, Glob}
use Rattle.sieve_match.specs.declared.pattern.GlobItem.TheVariants.{Star, One, Exact}

-- the pattern "a*?" has three items
items-plain : items (97 ∷ 42 ∷ 63 ∷ []) ≡ Exact 97 ∷ Star ∷ One ∷ []
unfolding items
items-plain = refl

-- in "\*\" the first backslash quotes the star, and the last one stands for itself
items-quoted_star : items (92 ∷ 42 ∷ 92 ∷ []) ≡ Exact 42 ∷ Exact 92 ∷ []
unfolding items
items-quoted_star = refl

-- "*b" matches "aB" by letters: the star takes "a"
star_matches : Glob to_ascii_uppercase (Star ∷ Exact 98 ∷ []) (97 ∷ 66 ∷ [])
unfolding Glob
star_matches = (1, omega arith, (refl, refl))

-- "b" does not match "bb": the whole value has to match
part_of_value : Glob to_ascii_uppercase (Exact 98 ∷ []) (98 ∷ 98 ∷ []) → ⊥
unfolding Glob
part_of_value h = cc

-- "?" does not match the empty text
one_at_nothing : Glob to_ascii_uppercase (One ∷ []) [] → ⊥
unfolding Glob
one_at_nothing h = h
