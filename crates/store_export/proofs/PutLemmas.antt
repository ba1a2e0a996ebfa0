-- A map is made again by its entries, put in turn.
use Rattle.std.proofs.Common.{◌≡◌, Bool, true, false, cond, List, [], ◌∷◌, Option, Some, None, fold, refl, sym, ap, ◌∙◌, true≢false, is_eq, Ordering}
use Rattle.std.specs.Cmp.{IsTotalOrder}
use Rattle.std.specs.FinMap.{FinMap, IsAntisymmetric, empty, get, entries, insert, find, same_map, get-entries, get-insert, get-empty}
use Rattle.sqlite_keyed.proofs.ListLemmas.{ascending_weaker}
use Rattle.store_accounts.specs.ScriptRows.{AreKeysApart}
use Rattle.store_accounts.proofs.MapLemmas.{tied, itself, entries_rise, none_apart}

abbrev found_or : {X : Type 0} → Option X → Option X → Option X
found_or None other = other
found_or (Some x) other = Some x

or_none : {X : Type 0} (o : Option X) → found_or o None ≡ o
or_none None = refl
or_none (Some x) = refl

module _ {K X : Type 0} (R : K → K → Ordering) (total : IsTotalOrder R) (alike : IsAntisymmetric R) where
  abbrev pub put_all : FinMap R X → List (K × X) → FinMap R X
  put_all = fold (λ m e. insert m e.0 e.1)

  get-put_all : (es : List (K × X)) (m : FinMap R X) (q : K) → AreKeysApart es → get (put_all m es) q ≡ found_or (find R q es) (get m q)
  get-put_all [] m q apart = refl
  get-put_all (e ∷ es) m q apart = get-put_all es (insert m e.0 e.1) q apart.1 ∙ ap (found_or (find R q es)) (get-insert total m e.0 e.1 q) ∙ go (is_eq (R q e.0)) refl
    where
      go : (b : Bool) → is_eq (R q e.0) ≡ b → found_or (find R q es) (cond b (Some e.1) (get m q)) ≡ found_or (cond b (Some e.1) (find R q es)) (get m q)
      go true same = ap (λ o. found_or o (Some e.1)) (ap (λ k. find R k es) (tied R total alike q e.0 same) ∙ none_apart R total alike e.0 es apart.0)
      go false other = refl

  pub entries_apart : (m : FinMap R X) → AreKeysApart (entries m)
  entries_apart m =
      ascending_weaker _ (λ (a b : K × X). a.0 ≡ b.0 → ⊥) (λ a b low same. true≢false (sym (itself R total alike a.0) ∙ ap (λ k. is_eq (R a.0 k)) same ∙ ap is_eq low)) (entries m)
      (entries_rise R total alike m)

  pub put_entries : (m : FinMap R X) → put_all empty (entries m) ≡ m
  put_entries m =
      same_map total alike (put_all empty (entries m)) m (λ q.
      get-put_all (entries m) empty q (entries_apart m) ∙ ap (found_or (find R q (entries m))) (get-empty R q) ∙ or_none (find R q (entries m)) ∙ sym (get-entries m q))
