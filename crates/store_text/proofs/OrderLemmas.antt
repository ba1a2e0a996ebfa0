-- Each part comes before all that stand behind it.
use Rattle.std.proofs.Common.{◌≡◌, true, List, [], ◌∷◌, ◌++◌, Option, Some, Ordering, Less, Equal, Greater, is_lt, refl, ap}
use Rattle.std.specs.List.{AllByRecursion}
use Rattle.std.specs.Cmp.{IsTotalOrder, nat_cmp_total, on_total, then_total}
use Rattle.std.specs.Cmp.Lexicographic.{nat_list_cmp_total}
use Rattle.std.proofs.lemmas.Bool.{and_parts}
use Rattle.store_text.specs.Order.{part_rank, part_number, part_key, part_second, part_cmp, follows, comes_after, joins, are_chained}
use Rattle.store_text.specs.declared.part.Part.{Part}

pub part_total : IsTotalOrder part_cmp
part_total = then_total (on_total part_rank nat_cmp_total) (then_total (on_total part_number nat_cmp_total) (then_total (on_total part_key nat_list_cmp_total) (on_total part_second nat_list_cmp_total)))

-- the part comes before the other
abbrev pub Before : Part → Part → Type 0
Before p q = is_lt (part_cmp p q) ≡ true

less_is : (o : Ordering) → is_lt o ≡ true → o ≡ Less
less_is Less h = refl
less_is Equal h = absurd (let never = h in cc)
less_is Greater h = absurd (let never = h in cc)

pub before_trans : (p q r : Part) → Before p q → Before q r → Before p r
before_trans p q r one two = ap is_lt (part_total.trans p q r (less_is (part_cmp p q) one) (less_is (part_cmp q r) two))

-- what is before a part is before all behind it
first_before : (q : Part) (front : List Part) (p : Part) (more : List Part) → are_chained (Some q) (front ++ p ∷ more) ≡ true → Before q p
first_before q [] p more is = (and_parts (comes_after (Some q) p) (joins (Some q) p) (and_parts (follows (Some q) p) (are_chained (Some p) more) is).0).0
first_before q (r ∷ front) p more is =
    let parts = and_parts (follows (Some q) r) (are_chained (Some r) (front ++ p ∷ more)) is in
    before_trans q r p (and_parts (comes_after (Some q) r) (joins (Some q) r) parts.0).0 (first_before r front p more parts.1)

pub all_before : (last : Option Part) (front : List Part) (p : Part) (more : List Part) → are_chained last (front ++ p ∷ more) ≡ true → AllByRecursion (λ q. Before q p) front
all_before last [] p more is = tt
all_before last (q ∷ front) p more is =
    let parts = and_parts (follows last q) (are_chained (Some q) (front ++ p ∷ more)) is in
    (first_before q front p more parts.1, all_before (Some q) front p more parts.1)
