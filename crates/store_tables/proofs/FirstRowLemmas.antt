-- The first row of an answer over one table: none comes before it by the keys of ORDER BY.
use Rattle.std.proofs.Common.{◌≡◌, ℕ, zero, suc, ℤ, pos, Bool, true, false, List, [], ◌∷◌, map, filter, take, slice_get, Option, Some, None, refl, sym, ap, ◌∙◌, subst, inl, inr, arith, IsPermutation, IsSorted, Ordering, Less, Equal, Greater, is_lt, is_gt}
use Rattle.std.specs.List.{list_all}
use Rattle.std.specs.Cmp.{IsTotalOrder}
use Rattle.std.specs.Ordering.{ordering_reverse}
use Rattle.std.proofs.lemmas.Cmp.{upto, tied_itself}
use Rattle.std.proofs.lemmas.List.Elements.{recursion_from_All, All-from_recursion}
use Rattle.std.proofs.lemmas.List.Sorted.{All-permutation, IsPermutation-sym}
use Rattle.sqlite_value.specs.declared.value.Value.TheVariants.{Int}
use Rattle.sqlite_value.specs.declared.keys.Key.{Key}
use Rattle.sqlite_value.specs.Order.{Row}
use Rattle.sqlite_trees.specs.Tree.{Trees}
use Rattle.sqlite_sql.specs.Term.{Term, lit, holds}
use Rattle.sqlite_sql.specs.Query.{Query, IsAnswer, Output, output, output_cmp}
use Rattle.sqlite_sql.specs.Program.{overlay}
use Rattle.sqlite_sql.proofs.QueryLemmas.{output_cmp_total}
use Rattle.sqlite_rules.specs.Lists.{Has}
use Rattle.sqlite_rules.proofs.ListLemmas.{all_has, all_from, has_filtered, has_kept}
use Rattle.store_tables.specs.Forms.{first_over}
use Rattle.store_tables.specs.Rows.{IsHeld}
use Rattle.store_tables.proofs.AnswerLemmas.{has_map, has_unmap, nth_in_order}

has_permuted : {X : Type 0} (xs ys : List X) → IsPermutation xs ys → (x : X) → Has ys x → Has xs x
has_permuted xs ys same x there = all_has (Has xs) ys x (recursion_from_All (Has xs) ys (All-permutation (Has xs) xs ys same (All-from_recursion (Has xs) xs (all_from (Has xs) xs (λ e h. h))))) there

module _ {X : Type 0} (cmp : X → X → Ordering) (total : IsTotalOrder cmp) where
  turned : (o : Ordering) → is_lt o ≡ false → is_gt (ordering_reverse o) ≡ false
  turned Less h = h
  turned Equal h = refl
  turned Greater h = refl

  -- what isn't above the first of a sorted list is above none of it
  not_above : (x y : X) (ys : List X) → IsSorted cmp (y ∷ ys) → is_gt (cmp x y) ≡ false → (z : X) → Has (y ∷ ys) z → is_gt (cmp x z) ≡ false
  not_above x y ys sorted low z (inl same) = ap (λ w. is_gt (cmp x w)) same ∙ low
  not_above x y [] sorted low z (inr later) = absurd later
  not_above x y (w ∷ ys) sorted low z (inr later) =
      let step : is_gt (cmp y w) ≡ false = ap is_gt (total.antisymm y w) ∙ turned _ (sorted 0 x (omega arith) (omega arith)) in
      let tail : IsSorted cmp (w ∷ ys) = λ k d p q. rw Rattle.std.proofs.Common.add-one (rw Rattle.std.proofs.Common.add-one at (sorted (suc k) d (omega arith) (omega arith))) in
      not_above x w ys tail (upto total x y w low step) z later

  -- nor is the first itself
  pub first_below : (x : X) (xs : List X) → IsSorted cmp (x ∷ xs) → (z : X) → Has (x ∷ xs) z → is_gt (cmp x z) ≡ false
  first_below x xs sorted = not_above x x xs sorted (ap is_gt (tied_itself total x))

-- of the cells that pass, the row shows one that comes after none of them; and there is no row where none passes
abbrev pub ShowsFirst : (Output → Output → Ordering) → (Row → Bool) → (Row → Output) → List Row → List Row → Type 0
ShowsFirst cmp p show cells [] = (c : Row) → Has cells c → p c ≡ true → ⊥
ShowsFirst cmp p show cells (r ∷ more) = (c : Row) × Has cells c × (p c ≡ true) × (r ≡ (show c).1) × ((d : Row) → Has cells d → p d ≡ true → is_gt (cmp (show c) (show d)) ≡ false)

module _ (db : Trees) (tree : ℕ) (terms project : List Term) (order : List (Term × Key)) (params : Row) (cells : List Row) (h : IsHeld (db tree) cells) (p : Row → Bool)
    (meets : (n : ℤ) (cells : Row) → list_all (holds (params ∷ (Int n ∷ cells) ∷ [])) terms ≡ p cells) where
  abbrev asked : Query
  asked = (first_over tree terms project order).body

  pub first_row : (show : Row → Output) → ((n : ℤ) (cells : Row) → output asked (params ∷ (Int n ∷ cells) ∷ []) ≡ show cells) → (rows : List Row) → IsAnswer asked (overlay db []) params rows
      → ShowsFirst (output_cmp asked) p show cells rows
  first_row show shows rows a =
      let found = nth_in_order db tree terms project order params cells h p meets (lit (Int (pos 0))) show shows rows a in
      subst (ShowsFirst (output_cmp asked) p show cells) (sym found.3) (go found.0 found.1 found.2)
    where
      among : (ordered : List Output) → IsPermutation (map show (filter p cells)) ordered → (c : Row) → Has cells c → p c ≡ true → Has ordered (show c)
      among ordered same c there passes = has_permuted ordered (map show (filter p cells)) (IsPermutation-sym _ _ same) (show c) (has_map show (filter p cells) c (has_kept p cells c there passes))

      go : (ordered : List Output) → IsPermutation (map show (filter p cells)) ordered → IsSorted (output_cmp asked) ordered → ShowsFirst (output_cmp asked) p show cells (take 1 (map (λ (o : Output). o.1) ordered))
      go [] same sorted = λ c there passes. among [] same c there passes
      go (o ∷ more) same sorted =
          let shown = has_unmap show (filter p cells) o (has_permuted (map show (filter p cells)) (o ∷ more) same o (inl refl)) in
          let passed = has_filtered p cells shown.0 shown.1 in (
            shown.0,
            passed.0,
            passed.1,
            ap (λ (w : Output). w.1) shown.2,
            λ d there passes.
                subst (λ w. is_gt (output_cmp asked w (show d)) ≡ false) shown.2 (first_below (output_cmp asked) (output_cmp_total asked) o more sorted (show d) (among (o ∷ more) same d there passes)),
          )
