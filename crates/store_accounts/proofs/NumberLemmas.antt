-- Entries with numbers of their own: none, one more, a higher counter, and that the rows tell the entries.
use Rattle.std.proofs.Common.{◌≡◌, Bool, not, ℕ, zero, suc, ◌<◌, ◌≤◌, ◌==◌, false, inl, inr, filter, eq-eqb, ne_eqb, List, [], ◌∷◌, ◌++◌, map, length, get_or, sym, ap, ◌∙◌, subst, arith, is_lt, Less, Greater, IsPermutation, IsSorted}
use Rattle.std.specs.List.{AllByRecursion}
use Rattle.std.specs.Cmp.{nat_cmp_is}
use Rattle.std.specs.Ordering.{nat_cmp, on}
use Rattle.std.proofs.lemmas.Cmp.{nat_cmp_total, on_total}
use Rattle.std.proofs.lemmas.List.{map-append}
use Rattle.std.proofs.lemmas.List.Sorted.{IsPermutation-map, IsPermutation-sym, IsPermutation-trans, IsPermutation-append_left}
use Rattle.sqlite_value.specs.Order.{Row}
use Rattle.sqlite_trees.specs.Tree.{IsAscending}
use Rattle.sqlite_keyed.proofs.ListLemmas.{filter_none, IsPermutation-same, IsPermutation-filter, filter-map, filter_same, all_weaker, all-append, all-filter, ascending-append, ascending-filter, ascending_weaker, map_back}
use Rattle.sqlite_rules.specs.Lists.{Has}
use Rattle.sqlite_rules.proofs.ListLemmas.{all_has}
use Rattle.sqlite_keyed.specs.Lists.{delete_where}
use Rattle.sqlite_keyed.proofs.SortLemmas.{sorted_unique}
use Rattle.store_accounts.specs.Numbers.{AreNumbered}

module _ {X : Type 0} (number : X → ℕ) (row : X → Row) where
  pub numbered_none : (rows : List Row) → rows ≡ [] → AreNumbered number row rows [] 1
  numbered_none rows none = record { rows_are = IsPermutation-same [] rows (sym none); rise = tt; from_one = tt; below = tt; counter = omega arith }

  pub numbered_up : (rows : List Row) (entries : List X) (next later : ℕ) → next ≤ later → AreNumbered number row rows entries next → AreNumbered number row rows entries later
  numbered_up rows entries next later up h = record {
    rows_are = h.rows_are;
    rise = h.rise;
    from_one = h.from_one;
    below = all_weaker (λ x. number x < next) (λ x. number x < later) (λ x low. omega arith) entries h.below;
    counter = let one = h.counter in omega arith;
  }

  -- an entry with a number above those that are there
  pub numbered_push : (rows : List Row) (entries : List X) (next : ℕ) (x : X) → AllByRecursion (λ y. number y < number x) entries → 1 ≤ number x → number x < next → AreNumbered number row rows entries next
      → AreNumbered number row (rows ++ row x ∷ []) (entries ++ x ∷ []) next
  numbered_push rows entries next x above one low h = record {
    rows_are = subst (λ l. IsPermutation l (rows ++ row x ∷ [])) (sym (map-append row entries (x ∷ []))) (IsPermutation-append_left (row x ∷ []) (map row entries) rows h.rows_are);
    rise = ascending-append (λ x y. number x < number y) entries (x ∷ []) h.rise (tt, tt) (all_weaker (λ y. number y < number x) (λ y. AllByRecursion (λ z. number y < number z) (x ∷ [])) (λ y least. (least, tt)) entries above);
    from_one = all-append _ entries (x ∷ []) h.from_one (one, tt);
    below = all-append _ entries (x ∷ []) h.below (low, tt);
    counter = h.counter;
  }

  -- an entry with the next number
  pub numbered_next : (rows : List Row) (entries : List X) (next : ℕ) (x : X) → number x ≡ next → AreNumbered number row rows entries next → AreNumbered number row (rows ++ row x ∷ []) (entries ++ x ∷ []) (suc next)
  numbered_next rows entries next x is h =
      let above = all_weaker (λ y. number y < next) (λ y. number y < number x) (λ y low. omega (arith, is, low)) entries h.below in
      let one = h.counter in
      numbered_push rows entries (suc next) x above (omega (arith, is, one)) (omega (arith, is)) (numbered_up rows entries next (suc next) (omega arith) h)

  -- the entries with a number are gone
  pub numbered_without : (gone : Row → Bool) (left : X → Bool) → ((x : X) → gone (row x) ≡ left x) → (rows : List Row) (entries : List X) (next : ℕ) → AreNumbered number row rows entries next
      → AreNumbered number row (delete_where gone rows) (delete_where left entries) next
  numbered_without gone left same rows entries next h = record {
    rows_are = subst (λ l. IsPermutation l (delete_where gone rows)) (filter-map (λ r. not (gone r)) row entries ∙ ap (map row) (filter_same _ (λ x. not (left x)) (λ x. ap not (same x)) entries))
        (IsPermutation-filter (λ r. not (gone r)) (map row entries) rows h.rows_are);
    rise = ascending-filter (λ x y. number x < number y) (λ x. not (left x)) entries h.rise;
    from_one = all-filter _ (λ x. not (left x)) entries h.from_one;
    below = all-filter _ (λ x. not (left x)) entries h.below;
    counter = h.counter;
  }

  rising_at : (ys : List X) → IsAscending (λ x y. number x < number y) ys → (k : ℕ) (d : X) → suc k < length ys → number (get_or ys k d) < number (get_or ys (suc k) d)
  rising_at [] up k d low = absurd (omega (arith, low))
  rising_at (y ∷ []) up k d low = absurd (omega (arith, low))
  rising_at (y ∷ z ∷ ys) up zero d low = up.0.0
  rising_at (y ∷ z ∷ ys) up (suc k) d low = rising_at (z ∷ ys) up.1 k d (omega (arith, low))

  rising_sorted : (ys : List X) → IsAscending (λ x y. number x < number y) ys → IsSorted (on number nat_cmp) ys
  rising_sorted ys up = λ k d least low.
      let next = rising_at ys up k d (omega (arith, low)) in
      rw Rattle.std.proofs.Common.add-one (ap is_lt (sym (nat_cmp_is (number (get_or ys (suc k) d)) (number (get_or ys k d)) Greater next)))

  -- rows that a function turns back into their entries
  pub numbered_one : (back : Row → X) → ((x : X) → back (row x) ≡ x) → (rows other : List Row) → rows ≡ other → (xs ys : List X) (m n : ℕ) → AreNumbered number row rows xs m → AreNumbered number row other ys n → xs ≡ ys
  numbered_one back turns rows other same xs ys m n h k =
      let ordered = IsPermutation-trans _ _ _ h.rows_are (subst (λ l. IsPermutation l (map row ys)) (sym same) (IsPermutation-sym (map row ys) other k.rows_are)) in
      let entries = subst (λ l. IsPermutation l (map back (map row ys))) (map_back row back turns xs) (IsPermutation-map back _ _ ordered) in
      let permuted = subst (IsPermutation xs) (map_back row back turns ys) entries in
      sym (sorted_unique (on number nat_cmp) (on_total number nat_cmp_total) xs ys (ascending_weaker _ _ (λ x y low. sym (nat_cmp_is (number x) (number y) Less low)) xs h.rise) permuted (rising_sorted ys k.rise))

  -- of entries that rise, one has the number
  pub alone_at : (xs : List X) → IsAscending (λ x y. number x < number y) xs → (x : X) → Has xs x → filter (λ y. number y == number x) xs ≡ x ∷ []
  alone_at [] up x there = absurd there
  alone_at (y ∷ ys) up x (inl same) =
      let none = filter_none (λ z. number z == number x) ys
      (all_weaker (λ z. number y < number z) (λ z. (number z == number x) ≡ false) (λ z low. ne_eqb (number z) (number x) (λ e. let here : number x ≡ number y = ap number same in omega (arith, e, here, low))) ys up.0) in
      rw (eq-eqb (number y) (number x) (ap number (sym same)), none) (ap (λ z. z ∷ []) (sym same))
  alone_at (y ∷ ys) up x (inr later) =
      let low = all_has (λ z. number y < number z) ys x up.0 later in
      rw (ne_eqb (number y) (number x) (λ e. omega (arith, e, low))) (alone_at ys up.1 x later)
