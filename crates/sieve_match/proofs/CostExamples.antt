-- The bounds on steps at a few sizes, and near them.
use Rattle.std.proofs.Common.{refl, ◌≡◌, ◌+◌, ◌≤◌, true, false, [], ◌∷◌, Some, None, replicate, arith}
use Rattle.sieve_match.specs.Costs.{search_end, search_steps, part_steps, value_rate, pattern_steps}
use Rattle.sieve_match.specs.Units.{key_units, pattern_units}

-- a search ends where it finds, or at the end
ends_at_a_place : search_end 10 (Some 4) ≡ 4
ends_at_a_place = refl

ends_at_the_end : search_end 10 None ≡ 10
ends_at_the_end = refl

-- for a key of 63 octets a table is made, and one of 64 is compared with itself; the bound is no lower
short_key : search_steps 63 100 ≡ 100 + 126 + 257
short_key = refl

long_key : search_steps 64 100 ≡ 400 + 448 + 3
long_key = refl

not_fewer : search_steps 64 100 ≤ 850 → ⊥
not_fewer h = omega (arith, h)

-- 64 items with a `?` are tried at each octet, and 63 aren't
tried : part_steps false 64 9 ≡ 640
tried = refl

not_tried : part_steps false 63 9 ≡ 9 + 126 + 256
not_tried = refl

-- and where there is no item there is no step
no_item : part_steps true 0 9 ≡ 0
no_item = refl

-- "a*b" has no table, and "*b*" has one
no_table : pattern_steps (97 ∷ 42 ∷ 98 ∷ []) 10 ≡ 10 + 9 + 1
no_table = refl

one_table : pattern_steps (42 ∷ 98 ∷ 42 ∷ []) 10 ≡ 10 + 9 + 256 + 1
one_table = refl

-- a pattern of 64 octets with a `?` may take 64 steps and 260 for each octet of the value, and one without it, or of 63, doesn't
long_question : value_rate (63 ∷ replicate 63 97) ≡ 324
long_question = refl

long_letters : value_rate (97 ∷ replicate 63 97) ≡ 4
long_letters = refl

short_question : value_rate (63 ∷ replicate 62 97) ≡ 1
short_question = refl

-- the work of "*b*" with ten octets
work : pattern_units (42 ∷ 98 ∷ 42 ∷ []) 10 ≡ 18 + 11 + 256
work = refl

-- that of a key of 64 octets is more than the steps, and of one of 63 octets it may be less
long_work : key_units (replicate 64 97) 100 ≡ 1440
long_work = refl

short_work : key_units (replicate 63 97) 100 ≡ 435
short_work = refl
