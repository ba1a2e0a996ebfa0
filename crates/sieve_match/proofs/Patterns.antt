-- How a pattern spells its items.
use Rattle.std.proofs.Common.{refl, ◌≡◌, ◌==◌, ℕ, ◌+◌, ◌<◌, ◌≤◌, List, [], ◌∷◌, length, drop, get_or, sym, ap, subst, ◌∙◌, ⊎_elim, arith}
use Rattle.std.proofs.lemmas.List.{drop_more, drop_all, length-drop}
use Rattle.std.proofs.lemmas.Bool.{cases_lt, cond-false, ne_eqb}
use Rattle.sieve_match.specs.Glob.{unquoted_item, items}
use Rattle.sieve_match.specs.Segments.{item_octet}
use Rattle.sieve_match.specs.declared.pattern.GlobItem.{GlobItem}
use Rattle.sieve_match.specs.declared.pattern.GlobItem.TheVariants.{Exact}
use Rattle.sieve_match.specs.declared.pattern.TheConstants.{QUOTE}

pub items-nil : items [] ≡ []
unfolding items
items-nil = refl

pub items-last : (x : ℕ) → items (x ∷ []) ≡ unquoted_item x ∷ []
unfolding items
items-last x = refl

pub items-pair_quoted : (x y : ℕ) (rest : List ℕ) → x ≡ QUOTE → items (x ∷ y ∷ rest) ≡ Exact y ∷ items rest
unfolding items
items-pair_quoted x y rest e = subst (λ z. items (z ∷ y ∷ rest) ≡ Exact y ∷ items rest) (sym e) refl

pub items-pair : (x y : ℕ) (rest : List ℕ) → (x ≡ QUOTE → ⊥) → items (x ∷ y ∷ rest) ≡ unquoted_item x ∷ items (y ∷ rest)
unfolding items
items-pair x y rest other = cond-false (x == QUOTE) (Exact y ∷ items rest) (unquoted_item x ∷ items (y ∷ rest)) (ne_eqb x QUOTE other)

module _ (p : List ℕ) (k : ℕ) where
  -- at the pattern's end there is no item
  pub items-past : length p ≤ k → items (drop k p) ≡ []
  items-past past = ap items (drop_all k p past) ∙ items-nil

  module _ (inside : k < length p) where
    at_place : drop k p ≡ get_or p k 0 ∷ drop (k + 1) p
    at_place = drop_more p k 0 inside

    at_next : k + 1 < length p → drop (k + 1) p ≡ get_or p (k + 1) 0 ∷ drop (k + 2) p
    at_next more = drop_more p (k + 1) 0 more ∙ ap (λ n. get_or p (k + 1) 0 ∷ drop n p) (omega arith)

    -- a backslash before an octet
    pub items-quoted : get_or p k 0 ≡ QUOTE → k + 1 < length p → items (drop k p) ≡ Exact (get_or p (k + 1) 0) ∷ items (drop (k + 2) p)
    items-quoted quote more =
        ap items (at_place ∙ ap (λ l. get_or p k 0 ∷ l) (at_next more))
        ∙ items-pair_quoted (get_or p k 0) (get_or p (k + 1) 0) (drop (k + 2) p) quote

    -- any other octet, and a last lone backslash
    pub items-unquoted : (get_or p k 0 ≡ QUOTE → length p ≤ k + 1) → items (drop k p) ≡ unquoted_item (get_or p k 0) ∷ items (drop (k + 1) p)
    items-unquoted other = ⊎_elim
        (λ more.
        let next = at_next more in
        ap items (at_place ∙ ap (λ l. get_or p k 0 ∷ l) next)
        ∙ items-pair (get_or p k 0) (get_or p (k + 1) 0) (drop (k + 2) p) (λ quote. absurd (omega (arith, other quote)))
        ∙ ap (λ l. unquoted_item (get_or p k 0) ∷ items l) (sym next))
        (λ last.
        let none = drop_all (k + 1) p last in
        ap items (at_place ∙ ap (λ l. get_or p k 0 ∷ l) none) ∙ items-last (get_or p k 0)
        ∙ ap (λ l. unquoted_item (get_or p k 0) ∷ l) (sym (ap items none ∙ items-nil)))
        (cases_lt (k + 1) (length p))

  -- a place from which items are left lies in the pattern
  pub inside_pattern : (is : List GlobItem) (n : ℕ) → items (drop k p) ≡ drop n is → n < length is → k < length p
  inside_pattern is n cursor more = ⊎_elim
      (λ inside. inside)
      (λ past. absurd (omega (arith, length-drop n is, ap length (sym cursor ∙ items-past past))))
      (cases_lt k (length p))

-- an item that is an octet is the one of its octet
pub Exact-octet : (item : GlobItem) (octet : ℕ) → item ≡ Exact octet → item ≡ Exact (item_octet item)
Exact-octet item octet e = subst (λ i. i ≡ Exact (item_octet i)) (sym e) refl
