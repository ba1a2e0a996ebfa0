-- A list that is read item by item: what is left of it from a place on.
use Rattle.std.proofs.Common.{◌≡◌, ℕ, ◌+◌, List, ◌∷◌, drop, get_or, sym, ap, ◌∙◌, arith}
use Rattle.std.proofs.lemmas.List.{get_or-drop, drop-drop}

module _ {X : Type 0} (d : X) (xs : List X) (n : ℕ) (y : X) (ys : List X) (left : drop n xs ≡ y ∷ ys) where
  -- the item at the place
  pub item_at : get_or xs n d ≡ y
  item_at = ap (λ k. get_or xs k d) (omega arith) ∙ sym (get_or-drop n xs 0 d) ∙ ap (λ l. get_or l 0 d) left

  -- what is left after it
  pub left_after : drop (n + 1) xs ≡ ys
  left_after = sym (drop-drop 1 n xs) ∙ ap (drop 1) left
