-- The definitions at a few texts: one that they fit, and one near it that they don't.
use Rattle.std.proofs.Common.{refl, [], ◌∷◌, get_or, ap, arith, ◌≡◌, Some, None, codes, lit<}
use Rattle.std.specs.Char.{to_ascii_uppercase}
use Rattle.sieve_match.specs.Comparators.{EqualBy, ContainsBy}
use Rattle.sieve_match.specs.Sorting.{ComesBefore}
use Rattle.sieve_match.specs.Numbers.{number_at, IsBelow}
use Rattle.sieve_match.proofs.NumberLemmas.{below_of}
use Rattle.sieve_match.proofs.SortingLemmas.{before_strict}

-- "ab" and "AB" are equal by letters
equal_by_letters : EqualBy to_ascii_uppercase (97 ∷ 98 ∷ []) (65 ∷ 66 ∷ [])
equal_by_letters = refl

-- and not by octets
not_equal_by_octets : EqualBy (λ octet. octet) (97 ∷ 98 ∷ []) (65 ∷ 66 ∷ []) → ⊥
not_equal_by_octets e = omega (arith, ap (λ l. get_or l 0 0) e)

-- "[" and "{" are no letters
not_equal_by_marks : EqualBy to_ascii_uppercase (91 ∷ []) (123 ∷ []) → ⊥
not_equal_by_marks e = omega (arith, ap (λ l. get_or l 0 0) e)

-- "b" is contained in "abc", with "a" before it and "c" after it
contained : ContainsBy (λ octet. octet) (98 ∷ []) (97 ∷ 98 ∷ 99 ∷ [])
contained = (97 ∷ [], (99 ∷ [], refl))

-- the empty key is contained in the empty value
empty_contained : ContainsBy to_ascii_uppercase [] []
empty_contained = ([], ([], refl))

-- "a" comes before "B" by letters, and after it by octets
before_by_letters : ComesBefore to_ascii_uppercase (codes "a") (codes "B")
before_by_letters = record { front = []; rest = codes "A"; rest_of_other = codes "B"; begins = refl; other_begins = refl; less = lit< tt }

after_by_octets : ComesBefore (λ octet. octet) (codes "B") (codes "a")
after_by_octets = record { front = []; rest = codes "B"; rest_of_other = codes "a"; begins = refl; other_begins = refl; less = lit< tt }

-- "ab" comes before "abc", and not before itself
before_longer : ComesBefore (λ octet. octet) (codes "ab") (codes "abc")
before_longer = record { front = codes "ab"; rest = []; rest_of_other = codes "c"; begins = refl; other_begins = refl; less = tt }

not_before_itself : ComesBefore (λ octet. octet) (codes "ab") (codes "ab") → ⊥
not_before_itself before = before_strict (λ octet. octet) (codes "ab") (codes "ab") before refl

-- RFC 4790, 9.1.1: zeros in front and what follows the digits don't count; without digits it is infinity
numbers : (number_at (codes "04294967298") ≡ Some 4294967298) × (number_at (codes "4294967298b") ≡ Some 4294967298)
numbers = (refl, refl)

infinite : (number_at [] ≡ None) × ((number_at (codes "x") ≡ None) × (number_at (codes "-1") ≡ None))
infinite = (refl, (refl, refl))

below_infinity : IsBelow (codes "04294967298") []
below_infinity = below_of (codes "04294967298") [] tt
