-- The entries that a map is made of, in any order: one is put or removed, the first that is found, and all in the order of their keys.
use Rattle.std.proofs.Common.{◌≡◌, ◌≢◌, Bool, true, false, not, cond, T, List, [], ◌∷◌, ◌++◌, map, filter, length, Option, Some, None, option_map, slice_get, refl, sym, ap, ◌∙◌, subst, arith, true≢false, is_eq, is_lt, Ordering, Less, Equal, Greater, IsPermutation}
use Rattle.std.specs.List.{AllByRecursion}
use Rattle.std.specs.Cmp.{IsTotalOrder}
use Rattle.std.specs.FinMap.{FinMap, IsAntisymmetric, empty, get, entries, insert, remove, from_entries, find, put, is_sorted, same_map, len-entries, len-empty, get-entries, get-from_entries, entries_sorted, entries-insert, get-insert, get-remove}
use Rattle.std.specs.FinMap.Entries.{by_order, below_all}
use Rattle.std.proofs.lemmas.Bool.{and_parts}
use Rattle.std.proofs.lemmas.Cmp.{tied_itself}
use Rattle.std.proofs.lemmas.List.Sorted.{IsPermutation-refl, IsPermutation-trans, IsPermutation-sym, IsPermutation-cons, IsPermutation-middle}
use Rattle.sqlite_trees.specs.Tree.{IsAscending}
use Rattle.sqlite_keyed.specs.Lists.{delete_where}
use Rattle.sqlite_keyed.proofs.ListLemmas.{ascending-filter, ascending-append, all_weaker}
use Rattle.sqlite_typed.proofs.TestLemmas.{turn_eq}
use Rattle.store_accounts.specs.ScriptRows.{AreKeysApart}

no_length : {X : Type 0} (es : List X) → length es ≡ 0 → es ≡ []
no_length [] e = refl
no_length (x ∷ es) e = absurd (omega arith)

from_T : (b : Bool) → T b → b ≡ true
from_T true h = refl
from_T false h = absurd h

is_less : (o : Ordering) → is_lt o ≡ true → o ≡ Less
is_less Less h = refl
is_less Equal h = absurd (true≢false (sym h))
is_less Greater h = absurd (true≢false (sym h))

pub tied_is : (o : Ordering) → is_eq o ≡ true → o ≡ Equal
tied_is Less h = absurd (true≢false (sym h))
tied_is Equal h = refl
tied_is Greater h = absurd (true≢false (sym h))

module _ {K : Type 0} (R : K → K → Ordering) (total : IsTotalOrder R) (alike : IsAntisymmetric R) where
  pub tied : (a b : K) → is_eq (R a b) ≡ true → a ≡ b
  tied a b h = alike a b (tied_is (R a b) h)

  pub itself : (a : K) → is_eq (R a a) ≡ true
  itself a = ap is_eq (tied_itself total a)

  module _ {X : Type 0} where
    abbrev pub is_at : K → K × X → Bool
    is_at name e = is_eq (R e.0 name)

    find_other : (name : K) (q k : K) (new old : Option X) (rest : Option X) → is_eq (R k name) ≡ false
        → cond (is_eq (R q k)) old (cond (is_eq (R q name)) new rest) ≡ cond (is_eq (R q name)) new (cond (is_eq (R q k)) old rest)
    find_other name q k new old rest apart = go (is_eq (R q k)) (is_eq (R q name)) refl refl
      where
        go : (a b : Bool) → is_eq (R q k) ≡ a → is_eq (R q name) ≡ b → cond a old (cond b new rest) ≡ cond b new (cond a old rest)
        go true true s t = absurd (true≢false (sym (ap (λ x. is_eq (R x name)) (sym (tied q k s)) ∙ t) ∙ apart))
        go true false s t = refl
        go false b s t = refl

    -- what is found once a name is taken out and put back at the end
    find_replaced : (name : K) (x : X) (es : List (K × X)) (q : K)
        → find R q (delete_where (is_at name) es ++ (name, x) ∷ []) ≡ cond (is_eq (R q name)) (Some x) (find R q es)
    find_replaced name x [] q = refl
    find_replaced name x (e ∷ es) q = go (is_at name e) refl (find_replaced name x es q)
      where
        go : (b : Bool) → is_at name e ≡ b → find R q (delete_where (is_at name) es ++ (name, x) ∷ []) ≡ cond (is_eq (R q name)) (Some x) (find R q es)
            → find R q (cond (not b) (e ∷ delete_where (is_at name) es) (delete_where (is_at name) es) ++ (name, x) ∷ []) ≡ cond (is_eq (R q name)) (Some x) (cond (is_eq (R q e.0)) (Some e.1) (find R q es))
        go true is more =
            rw (tied e.0 name is)
            (more ∙ elim (is_eq (R q name)) as (λ b. cond b (Some x) (find R q es) ≡ cond b (Some x) (cond b (Some e.1) (find R q es))) [ true ↦ refl | false ↦ refl ])
        go false apart more = ap (cond (is_eq (R q e.0)) (Some e.1)) more ∙ find_other name q e.0 (Some x) (Some e.1) (find R q es) apart

    -- what is found once a name is taken out
    find_removed : (name : K) (es : List (K × X)) (q : K) → find R q (delete_where (is_at name) es) ≡ cond (is_eq (R q name)) None (find R q es)
    find_removed name [] q = elim (is_eq (R q name)) as (λ b. let none : Option X = None in none ≡ cond b None None) [ true ↦ refl | false ↦ refl ]
    find_removed name (e ∷ es) q = go (is_at name e) refl (find_removed name es q)
      where
        go : (b : Bool) → is_at name e ≡ b → find R q (delete_where (is_at name) es) ≡ cond (is_eq (R q name)) None (find R q es)
            → find R q (cond (not b) (e ∷ delete_where (is_at name) es) (delete_where (is_at name) es)) ≡ cond (is_eq (R q name)) None (cond (is_eq (R q e.0)) (Some e.1) (find R q es))
        go true is more =
            rw (tied e.0 name is)
            (more ∙ elim (is_eq (R q name)) as (λ b. cond b None (find R q es) ≡ cond b None (cond b (Some e.1) (find R q es))) [ true ↦ refl | false ↦ refl ])
        go false apart more = ap (cond (is_eq (R q e.0)) (Some e.1)) more ∙ find_other name q e.0 None (Some e.1) (find R q es) apart

    -- what is left has other names
    left_apart : (name : K) (es : List (K × X)) → AllByRecursion (λ e. e.0 ≢ name) (delete_where (is_at name) es)
    left_apart name [] = tt
    left_apart name (e ∷ es) = go (is_at name e) refl (left_apart name es)
      where
        go : (b : Bool) → is_at name e ≡ b → AllByRecursion (λ x. x.0 ≢ name) (delete_where (is_at name) es) → AllByRecursion (λ x. x.0 ≢ name) (cond (not b) (e ∷ delete_where (is_at name) es) (delete_where (is_at name) es))
        go true is more = more
        go false apart more = ((λ same. true≢false (sym (ap (λ k. is_eq (R k name)) same ∙ itself name) ∙ apart)), more)

    -- an entry in place of the one with its key, if there is one
    pub shown_put : (m : FinMap R X) (es : List (K × X)) (k : K) (x : X) → m ≡ from_entries es → insert m k x ≡ from_entries (delete_where (is_at k) es ++ (k, x) ∷ [])
    shown_put m es k x is = same_map total alike _ _ (λ q.
        ap (λ n. get (insert n k x) q) is ∙ get-insert total (from_entries es) k x q ∙ ap (cond (is_eq (R q k)) (Some x)) (get-from_entries total es q)
        ∙ sym (get-from_entries total (delete_where (is_at k) es ++ (k, x) ∷ []) q ∙ find_replaced k x es q))

    pub shown_without : (m : FinMap R X) (es : List (K × X)) (k : K) → m ≡ from_entries es → remove m k ≡ from_entries (delete_where (is_at k) es)
    shown_without m es k is = same_map total alike _ _ (λ q.
        ap (λ n. get (remove n k) q) is ∙ get-remove total (from_entries es) k q ∙ ap (cond (is_eq (R q k)) None) (get-from_entries total es q)
        ∙ sym (get-from_entries total (delete_where (is_at k) es) q ∙ find_removed k es q))

    pub apart_without : (es : List (K × X)) (k : K) → AreKeysApart es → AreKeysApart (delete_where (is_at k) es)
    apart_without es k apart = ascending-filter (λ x y. x.0 ≢ y.0) (λ e. not (is_at k e)) es apart

    pub apart_put : (es : List (K × X)) (k : K) (x : X) → AreKeysApart es → AreKeysApart (delete_where (is_at k) es ++ (k, x) ∷ [])
    apart_put es k x apart = ascending-append (λ x y. x.0 ≢ y.0) (delete_where (is_at k) es) ((k, x) ∷ []) (apart_without es k apart) (tt, tt)
        (all_weaker (λ e. e.0 ≢ k) (λ e. AllByRecursion (λ (y : K × X). e.0 ≢ y.0) ((k, x) ∷ [])) (λ e other. (other, tt)) (delete_where (is_at k) es) (left_apart k es))

    -- the first entry with the key
    pub first_found : {Y : Type 0} (show : X → Y) (k : K) (es : List (K × X)) → slice_get (map (λ e. show e.1) (filter (is_at k) es)) 0 ≡ option_map show (find R k es)
    first_found show k [] = refl
    first_found {Y} show k (e ∷ es) = go (is_at k e) refl (first_found show k es)
      where
        go : (b : Bool) → is_at k e ≡ b → slice_get (map (λ e. show e.1) (filter (is_at k) es)) 0 ≡ option_map show (find R k es)
            → slice_get (map (λ e. show e.1) (cond b (e ∷ filter (is_at k) es) (filter (is_at k) es))) 0 ≡ option_map show (cond (is_eq (R k e.0)) (Some e.1) (find R k es))
        go true same more = rw (ap (λ q. is_eq (R k q)) (tied e.0 k same) ∙ itself k)
        go false apart more = rw (turn_eq R total k e.0 ∙ apart) more

    put_permutation : (k : K) (v : X) (es : List (K × X)) → find R k es ≡ None → IsPermutation ((k, v) ∷ es) (put R k v es)
    put_permutation k v [] none = IsPermutation-refl _
    put_permutation k v (e ∷ es) none = go (R k e.0) none (put_permutation k v es)
      where
        go : (o : Ordering) → cond (is_eq o) (Some e.1) (find R k es) ≡ None → (find R k es ≡ None → IsPermutation ((k, v) ∷ es) (put R k v es))
            → IsPermutation ((k, v) ∷ e ∷ es) (by_order o ((k, v) ∷ e ∷ es) ((e.0, v) ∷ es) (e ∷ put R k v es))
        go Less h more = IsPermutation-refl _
        go Equal h more = absurd (let same = h in cc)
        go Greater h more = IsPermutation-trans _ _ _ (IsPermutation-sym _ _ (IsPermutation-middle (e ∷ []) (k, v) es)) (IsPermutation-cons e _ _ (more h))

    pub none_apart : (k : K) (es : List (K × X)) → AllByRecursion (λ e. k ≢ e.0) es → find R k es ≡ None
    none_apart k [] apart = refl
    none_apart k (e ∷ es) apart = go (is_eq (R k e.0)) refl (none_apart k es apart.1)
      where
        go : (b : Bool) → is_eq (R k e.0) ≡ b → find R k es ≡ None → cond b (Some e.1) (find R k es) ≡ None
        go true same more = absurd (apart.0 (tied k e.0 same))
        go false other more = more

    pub entries_permutation : (es : List (K × X)) → AreKeysApart es → IsPermutation es (entries (from_entries {R = R} es))
    entries_permutation [] apart = subst (IsPermutation []) (sym (no_length _ (sym (len-entries (empty {X = X} {R = R})) ∙ len-empty R X))) (IsPermutation-refl [])
    entries_permutation (e ∷ es) apart =
        let m : FinMap R X = from_entries es in
        let free : find R e.0 (entries m) ≡ None = sym (get-entries m e.0) ∙ get-from_entries total es e.0 ∙ none_apart e.0 es apart.0 in
        subst (IsPermutation (e ∷ es)) (sym (entries-insert total m e.0 e.1))
        (IsPermutation-trans _ _ _ (IsPermutation-cons e es (entries m) (entries_permutation es apart.1)) (put_permutation e.0 e.1 (entries m) free))

    below : (k : K) (es : List (K × X)) → below_all R k es ≡ true → AllByRecursion (λ e. R k e.0 ≡ Less) es
    below k [] h = tt
    below k (e ∷ es) h = let parts = and_parts (is_lt (R k e.0)) (below_all R k es) h in (is_less _ parts.0, below k es parts.1)

    rises : (es : List (K × X)) → is_sorted R es ≡ true → IsAscending (λ a b. R a.0 b.0 ≡ Less) es
    rises [] h = tt
    rises (e ∷ es) h = let parts = and_parts (below_all R e.0 es) (is_sorted R es) h in (below e.0 es parts.0, rises es parts.1)

    pub entries_rise : (m : FinMap R X) → IsAscending (λ a b. R a.0 b.0 ≡ Less) (entries m)
    entries_rise m = rises (entries m) (from_T _ (entries_sorted m))
