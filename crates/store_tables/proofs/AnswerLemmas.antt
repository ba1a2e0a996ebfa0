-- At most one row has a key, and what a query over one table or two finds.
use Rattle.std.proofs.lemmas.List.{map-append}
use Rattle.std.proofs.Common.{◌≡◌, ◌⊎◌, ℕ, ◌-◌, ◌^◌, ℤ, ◌<ℤ◌, nat_le, unwrap_or, int_eq, take, drop, pos, negsuc, Bool, true, false, not, ◌&&◌, cond, List, [], ◌∷◌, ◌++◌, map, filter, flat_map, find, slice_get, None, option_map, refl, sym, ap, ap₂, ◌∙◌, subst, inl, inr, arith, IsPermutation, IsSorted}
use Rattle.std.specs.List.{list_all}
use Rattle.std.proofs.lemmas.Int.{ints}
use Rattle.std.proofs.lemmas.Bool.{and_from, not-true, not-false, both_ways, false_from_ne_true}
use Rattle.std.proofs.lemmas.Option.{slice_get-map}
use Rattle.std.proofs.lemmas.List.Sorted.{length_permutation}
use Rattle.sqlite_value.specs.declared.value.Value.TheVariants.{Int}
use Rattle.sqlite_value.specs.declared.keys.Key.{Key}
use Rattle.sqlite_value.specs.Order.{Row}
use Rattle.sqlite_trees.specs.Tree.{Trees, rowid}
use Rattle.sqlite_sql.specs.declared.ops.CompareOp.TheVariants.{Ne}
use Rattle.sqlite_sql.specs.Term.{Term, lit, eval, holds, eval_all, Env}
use Rattle.sqlite_sql.specs.Query.{Query, IsAnswer, Output, output, output_cmp, page, as_count, inner, end}
use Rattle.sqlite_sql.specs.Program.{overlay}
use Rattle.sqlite_schema.specs.declared.schema.Constraint.TheVariants.{Unique}
use Rattle.sqlite_schema.specs.declared.schema.Table.{Table}
use Rattle.sqlite_schema.specs.declared.schema.Index.{Index}
use Rattle.sqlite_schema.specs.declared.schema.Schema.{Schema}
use Rattle.sqlite_schema.specs.Rules.{agree, clashes, guards, differ, Fits}
use Rattle.sqlite_rules.specs.Lists.{Has}
use Rattle.sqlite_rules.proofs.KeyLemmas.{agree_back, agree_chain}
use Rattle.sqlite_rules.proofs.ListLemmas.{all_has, all_from, test_has, some_from}
use Rattle.sqlite_rules.proofs.RuleLemmas.{keeps_at}
use Rattle.sqlite_keyed.specs.Keyed.{IsKeyedBy}
use Rattle.sqlite_keyed.proofs.ListLemmas.{map-map, filter-map, filter_none, map_same, slice_get-filter}
use Rattle.sqlite_keyed.proofs.KeyedLemmas.{same_int}
use Rattle.sqlite_typed.proofs.TestLemmas.{at_ints}
use Rattle.sqlite.proofs.Callers.{one_permutation}
use Rattle.store_tables.specs.Forms.{over_table, over_two, most_over, nth_over, limited_from}
use Rattle.store_tables.specs.Rows.{Entry, id_of, cells_of, stored, IsHeld, has_key}

pub has_map : {X Y : Type 0} (f : X → Y) (xs : List X) (x : X) → Has xs x → Has (map f xs) (f x)
has_map f [] x h = absurd h
has_map f (y ∷ xs) x (inl same) = inl (ap f same)
has_map f (y ∷ xs) x (inr later) = inr (has_map f xs x later)

pub has_unmap : {X Y : Type 0} (f : X → Y) (xs : List X) (y : Y) → Has (map f xs) y → (x : X) × Has xs x × (y ≡ f x)
has_unmap f [] y h = absurd h
has_unmap f (x ∷ xs) y (inl same) = (x, inl refl, same)
has_unmap f (x ∷ xs) y (inr later) = let found = has_unmap f xs y later in (found.0, inr found.1, found.2)

-- no element passes, or one does
abbrev pub IsAtMostOne : {X : Type 0} → (X → Bool) → List X → Type 0
IsAtMostOne {X} p xs = (filter p xs ≡ []) ⊎ ((x : X) × Has xs x × (p x ≡ true) × (filter p xs ≡ x ∷ []))

module _ {X : Type 0} (key : X → ℤ) (p : X → Bool) where
  pub lone : (xs : List X) → IsKeyedBy key xs → ((x y : X) → Has xs x → Has xs y → p x ≡ true → p y ≡ true → key x ≡ key y) → IsAtMostOne p xs
  lone [] up apart = inl refl
  lone (x ∷ xs) up apart = go (p x) refl (lone xs up.1 (λ a b h k. apart a b (inr h) (inr k)))
    where
      go : (b : Bool) → p x ≡ b → IsAtMostOne p xs → (cond b (x ∷ filter p xs) (filter p xs) ≡ []) ⊎ ((y : X) × Has (x ∷ xs) y × (p y ≡ true) × (cond b (x ∷ filter p xs) (filter p xs) ≡ y ∷ []))
      go true is more =
          let none = filter_none p xs (all_from _ xs (λ y there. false_from_ne_true _ (λ passes.
          let same : key x ≡ key y = apart x y (inl refl) (inr there) is passes in
          let above = all_has (λ z. key x <ℤ key z) xs y up.0 there in omega (arith, ints)))) in
          inr (x, inl refl, is, ap (λ l. x ∷ l) none)
      go false is (inl none) = inl none
      go false is (inr one) = inr (one.0, inr one.1, one.2, one.3)

-- as by the cells, so by the entries
filter-entries : (p : Row → Bool) (es : List Entry) → filter p (map cells_of es) ≡ map cells_of (filter (λ e. p (cells_of e)) es)
filter-entries p es = filter-map p cells_of es

differ_ids : (a b : ℤ) → differ (Int a) (Int b) ≡ false → a ≡ b
differ_ids a b h = let same = at_ints false Ne a b in let apart : not (int_eq a b) ≡ false = sym same ∙ h in same_int a b (not-false _ apart)

-- under a unique index over the key at most one row has the key
module _ (schema : Schema) (table : Table) (listed : Has schema.tables table) (index : Index) (indexed : Has schema.indexes index) (guarding : guards index table ≡ true) (key : Row) (places : List ℕ)
    (agrees : (n : ℤ) (cells : Row) → has_key key cells ≡ true → agree index.order index.columns (Int n ∷ cells) places key ≡ true) (db : Trees) (fits : Fits schema db) (cells : List Row)
    (h : IsHeld (db table.tree) cells) where
  has_stored : (e : Entry) → Has h.entries e → Has (db table.tree) (stored e)
  has_stored e there = subst (λ l. Has l (stored e)) (sym h.rows_are) (has_map stored h.entries e there)

  same_id : (x y : Entry) → Has h.entries x → Has h.entries y → has_key key (cells_of x) ≡ true → has_key key (cells_of y) ≡ true → id_of x ≡ id_of y
  same_id x y hx hy kx ky =
      let kept = keeps_at Unique schema db table (stored x) (fits.rules Unique (λ e. cc)) listed (has_stored x hx) in
      let free : (guards index table && clashes index.order index.columns (db table.tree) (stored x)) ≡ false = not-true _ (test_has _ schema.indexes index kept indexed) in
      let agreed = agree_chain index.order index.columns places index.columns (stored y) key (stored x) (agrees (id_of y) (cells_of y) ky)
      (agree_back index.order index.columns places (stored x) key (agrees (id_of x) (cells_of x) kx)) in
      let near : differ (rowid (stored y)) (rowid (stored x)) ≡ false = false_from_ne_true _ (λ apart.
      both_ways _ free (and_from _ _ guarding (some_from _ (db table.tree) (stored y) (has_stored y hy) (and_from _ _ agreed apart)))) in
      sym (differ_ids (id_of y) (id_of x) near)

  one_entry : IsAtMostOne (λ e. has_key key (cells_of e)) h.entries
  one_entry = lone id_of (λ e. has_key key (cells_of e)) h.entries h.keyed same_id

no_permutation : {X : Type 0} (ys : List X) → IsPermutation [] ys → ys ≡ []
no_permutation [] same = refl
no_permutation (y ∷ ys) same = absurd (omega (arith, length_permutation _ _ same))

-- a list of one element at most has one order
few_permutation : {X : Type 0} (xs ys : List X) → (xs ≡ []) ⊎ ((x : X) × (xs ≡ x ∷ [])) → IsPermutation xs ys → ys ≡ xs
few_permutation xs ys (inl none) same = no_permutation ys (subst (λ l. IsPermutation l ys) none same) ∙ sym none
few_permutation xs ys (inr one) same = one_permutation one.0 ys (subst (λ l. IsPermutation l ys) one.1 same) ∙ sym one.1

few_mapped : {X Y : Type 0} (f : X → Y) (p : X → Bool) (xs : List X) → IsAtMostOne p xs → (map f (filter p xs) ≡ []) ⊎ ((y : Y) × (map f (filter p xs) ≡ y ∷ []))
few_mapped f p xs (inl none) = inl (ap (map f) none)
few_mapped f p xs (inr one) = inr (f one.0, ap (map f) one.3)

same_tree : (db : Trees) (t : ℕ) → overlay db [] t ≡ db t
same_tree db t = elim (nat_le (2 ^ 31) t) as (λ b. unwrap_or (cond b (slice_get [] (t - 2 ^ 31)) None) (db t) ≡ db t) [ true ↦ refl | false ↦ refl ]

abbrev slots : Row → Entry → Env
slots params e = params ∷ stored e ∷ []

matches_are : (params : Row) (terms : List Term) (p : Row → Bool) (meets : (n : ℤ) (cells : Row) → list_all (holds (params ∷ (Int n ∷ cells) ∷ [])) terms ≡ p cells) (es : List Entry)
    → flat_map (λ r. cond (list_all (holds (params ∷ r ∷ [])) terms) ((params ∷ r ∷ []) ∷ []) []) (map stored es) ≡ map (slots params) (filter (λ e. p (cells_of e)) es)
matches_are params terms p meets [] = refl
matches_are params terms p meets (e ∷ es) =
    rw (meets (id_of e) (cells_of e), matches_are params terms p meets es)
    (elim (p (cells_of e)) as (λ b. cond b (slots params e ∷ []) [] ++ map (slots params) (filter (λ x. p (cells_of x)) es) ≡ map (slots params) (cond b (e ∷ filter (λ x. p (cells_of x)) es) (filter (λ x. p (cells_of x)) es)))
    [ true ↦ refl | false ↦ refl ])

-- a query over one table, whose terms test the cells
module _ (limit offset : Term) (db : Trees) (tree : ℕ) (terms project : List Term) (order : List (Term × Key)) (params : Row) (cells : List Row) (h : IsHeld (db tree) cells) (p : Row → Bool)
    (meets : (n : ℤ) (cells : Row) → list_all (holds (params ∷ (Int n ∷ cells) ∷ [])) terms ≡ p cells) where
  abbrev asked : Query
  asked = (limited_from limit offset (inner tree end) terms project order).body

  outputs_are : (rows : List Row) → (a : IsAnswer asked (overlay db []) params rows) → a.kept ≡ map (λ e. output asked (slots params e)) (filter (λ e. p (cells_of e)) h.entries)
  outputs_are rows a =
      a.distinct ∙ ap (map (output asked)) (a.grouped ∙ ap (flat_map (λ r. cond (list_all (holds (params ∷ r ∷ [])) terms) ((params ∷ r ∷ []) ∷ []) [])) (same_tree db tree ∙ h.rows_are)
      ∙ matches_are params terms p meets h.entries) ∙ map-map (output asked) (slots params) _

  cells_paged : (show : Row → Output) → ((n : ℤ) (cells : Row) → output asked (params ∷ (Int n ∷ cells) ∷ []) ≡ show cells) → (rows : List Row) → IsAnswer asked (overlay db []) params rows
      → (ordered : List Output) × IsPermutation (map show (filter p cells)) ordered × IsSorted (output_cmp asked) ordered × (rows ≡ page asked params (map (λ (o : Output). o.1) ordered))
  cells_paged show shows rows a =
      let kept = outputs_are rows a in
      let are : map (λ e. output asked (slots params e)) (filter (λ e. p (cells_of e)) h.entries) ≡ map show (filter p cells) =
      map_same _ (λ e. show (cells_of e)) (λ e. shows (id_of e) (cells_of e)) _ ∙ sym (map-map show cells_of _) ∙ ap (map show) (sym (filter-entries p h.entries)) ∙ sym (ap (λ l. map show (filter p l)) h.cells_are) in
      (a.ordered, subst (λ k. IsPermutation k a.ordered) (kept ∙ are) a.same, a.sorted, a.shown)

module _ (db : Trees) (tree : ℕ) (terms project : List Term) (order : List (Term × Key)) (params : Row) (cells : List Row) (h : IsHeld (db tree) cells) (p : Row → Bool)
    (meets : (n : ℤ) (cells : Row) → list_all (holds (params ∷ (Int n ∷ cells) ∷ [])) terms ≡ p cells) where
  abbrev all_asked : Query
  all_asked = (over_table tree terms project order).body

  -- where at most one row is found
  pub entries_found : (rows : List Row) → IsAtMostOne (λ e. p (cells_of e)) h.entries → IsAnswer all_asked (overlay db []) params rows
      → rows ≡ map (λ e. eval_all project (slots params e)) (filter (λ e. p (cells_of e)) h.entries)
  entries_found rows one a =
      let kept = outputs_are (lit (Int (negsuc 0))) (lit (Int (pos 0))) db tree terms project order params cells h p meets rows a in
      let few = few_mapped (λ e. output all_asked (slots params e)) (λ e. p (cells_of e)) h.entries one in
      let ordered = few_permutation _ a.ordered few (subst (λ k. IsPermutation k a.ordered) kept a.same) in
      a.shown ∙ ap (map (λ (o : Output). o.1)) ordered ∙ map-map (λ (o : Output). o.1) (λ e. output all_asked (slots params e)) _

  -- whatever is found, in some order
  pub entries_some : (rows : List Row) → IsAnswer all_asked (overlay db []) params rows
      → (ordered : List Output) × IsPermutation (map (λ e. output all_asked (slots params e)) (filter (λ e. p (cells_of e)) h.entries)) ordered × (rows ≡ map (λ (o : Output). o.1) ordered)
  entries_some rows a =
      let kept = outputs_are (lit (Int (negsuc 0))) (lit (Int (pos 0))) db tree terms project order params cells h p meets rows a in
      (a.ordered, subst (λ k. IsPermutation k a.ordered) kept a.same, a.shown)

  pub cells_in_order : (show : Row → Output) → ((n : ℤ) (cells : Row) → output all_asked (params ∷ (Int n ∷ cells) ∷ []) ≡ show cells) → (rows : List Row) → IsAnswer all_asked (overlay db []) params rows
      → (ordered : List Output) × IsPermutation (map show (filter p cells)) ordered × IsSorted (output_cmp all_asked) ordered × (rows ≡ map (λ (o : Output). o.1) ordered)
  cells_in_order show shows rows a = cells_paged (lit (Int (negsuc 0))) (lit (Int (pos 0))) db tree terms project order params cells h p meets show shows rows a

  -- one of them, after that many
  module _ (offset : Term) where
    abbrev nth_asked : Query
    nth_asked = (nth_over offset tree terms project order).body

    pub nth_in_order : (show : Row → Output) → ((n : ℤ) (cells : Row) → output nth_asked (params ∷ (Int n ∷ cells) ∷ []) ≡ show cells) → (rows : List Row) → IsAnswer nth_asked (overlay db []) params rows
        → (ordered : List Output) × IsPermutation (map show (filter p cells)) ordered × IsSorted (output_cmp nth_asked) ordered
        × (rows ≡ take 1 (drop (unwrap_or (as_count (eval offset (params ∷ []))) 0) (map (λ (o : Output). o.1) ordered)))
    nth_in_order show shows rows a = cells_paged (lit (Int (pos 1))) offset db tree terms project order params cells h p meets show shows rows a

  -- the first of them, so many at most
  module _ (n : ℕ) where
    abbrev most_asked : Query
    most_asked = (most_over n tree terms project order).body

    pub most_in_order : (show : Row → Output) → ((i : ℤ) (cells : Row) → output most_asked (params ∷ (Int i ∷ cells) ∷ []) ≡ show cells) → (rows : List Row) → IsAnswer most_asked (overlay db []) params rows
        → (ordered : List Output) × IsPermutation (map show (filter p cells)) ordered × IsSorted (output_cmp most_asked) ordered × (rows ≡ take n (map (λ (o : Output). o.1) ordered))
    most_in_order show shows rows a = cells_paged (lit (Int (pos n))) (lit (Int (pos 0))) db tree terms project order params cells h p meets show shows rows a

-- a query over two tables: its terms test the cells of the first, and those of a row of each; a row of the first that passes has one row of the other
module _ (db : Trees) (tree other : ℕ) (terms project : List Term) (order : List (Term × Key)) (params : Row) (cells others : List Row) (h : IsHeld (db tree) cells) (k : IsHeld (db other) others) (p : Row → Bool) (q : Row → Row → Bool)
    (meets : (n m : ℤ) (a b : Row) → list_all (holds (params ∷ (Int n ∷ a) ∷ (Int m ∷ b) ∷ [])) terms ≡ (p a && q a b)) where
  abbrev joined : Query
  joined = (over_two tree other terms project order).body

  abbrev two_slots : Entry → Entry → Env
  two_slots e f = params ∷ stored e ∷ stored f ∷ []

  abbrev pairs_of : Row → List Row → List Env
  pairs_of r ss = flat_map (λ s. cond (list_all (holds (params ∷ r ∷ s ∷ [])) terms) ((params ∷ r ∷ s ∷ []) ∷ []) []) ss

  pairs_are : (e : Entry) (fs : List Entry) → pairs_of (stored e) (map stored fs) ≡ map (two_slots e) (filter (λ f. p (cells_of e) && q (cells_of e) (cells_of f)) fs)
  pairs_are e [] = refl
  pairs_are e (f ∷ fs) =
      rw (meets (id_of e) (id_of f) (cells_of e) (cells_of f), pairs_are e fs)
      (elim (p (cells_of e) && q (cells_of e) (cells_of f)) as (λ b. cond b (two_slots e f ∷ []) [] ++ map (two_slots e) (filter (λ x. p (cells_of e) && q (cells_of e) (cells_of x)) fs)
      ≡ map (two_slots e) (cond b (f ∷ filter (λ x. p (cells_of e) && q (cells_of e) (cells_of x)) fs) (filter (λ x. p (cells_of e) && q (cells_of e) (cells_of x)) fs)))
      [ true ↦ refl | false ↦ refl ])

  module _ (show : Row → Row → Output) (shows : (n m : ℤ) (a b : Row) → output joined (params ∷ (Int n ∷ a) ∷ (Int m ∷ b) ∷ []) ≡ show a b) (partner : Row → Row) where
    abbrev HasPartner : Row → Type 0
    HasPartner a = p a ≡ true → filter (q a) others ≡ partner a ∷ []

    shown_pairs : (e : Entry) → HasPartner (cells_of e) → map (output joined) (map (two_slots e) (filter (λ f. p (cells_of e) && q (cells_of e) (cells_of f)) k.entries)) ≡ cond (p (cells_of e)) (show (cells_of e) (partner (cells_of e)) ∷ []) []
    shown_pairs e one = go (p (cells_of e)) refl
      where
        here : p (cells_of e) ≡ true → map (output joined) (map (two_slots e) (filter (λ f. q (cells_of e) (cells_of f)) k.entries)) ≡ show (cells_of e) (partner (cells_of e)) ∷ []
        here passes =
            map-map (output joined) (two_slots e) _ ∙ map_same _ (λ f. show (cells_of e) (cells_of f)) (λ f. shows (id_of e) (id_of f) (cells_of e) (cells_of f)) _ ∙ sym (map-map (show (cells_of e)) cells_of _)
            ∙ ap (map (show (cells_of e))) (sym (filter-entries (q (cells_of e)) k.entries) ∙ sym (ap (filter (q (cells_of e))) k.cells_are) ∙ one passes)

        go : (b : Bool) → p (cells_of e) ≡ b → map (output joined) (map (two_slots e) (filter (λ f. b && q (cells_of e) (cells_of f)) k.entries)) ≡ cond b (show (cells_of e) (partner (cells_of e)) ∷ []) []
        go true passes = here passes
        go false fails = ap (λ l. map (output joined) (map (two_slots e) l)) (filter_none (λ f. false) k.entries (all_from _ k.entries (λ f there. refl)))

    joins_are : (es : List Entry) → ((e : Entry) → Has es e → HasPartner (cells_of e)) → map (output joined) (flat_map (λ r. pairs_of r (map stored k.entries)) (map stored es)) ≡ map (λ a. show a (partner a)) (filter p (map cells_of es))
    joins_are [] each = refl
    joins_are (e ∷ es) each =
        map-append (output joined) (pairs_of (stored e) (map stored k.entries)) (flat_map (λ r. pairs_of r (map stored k.entries)) (map stored es))
        ∙ ap₂ (λ l m. l ++ m) (ap (map (output joined)) (pairs_are e k.entries) ∙ shown_pairs e (each e (inl refl))) (joins_are es (λ f there. each f (inr there)))
        ∙ elim (p (cells_of e)) as (λ b. cond b (show (cells_of e) (partner (cells_of e)) ∷ []) [] ++ map (λ a. show a (partner a)) (filter p (map cells_of es))
        ≡ map (λ a. show a (partner a)) (cond b (cells_of e ∷ filter p (map cells_of es)) (filter p (map cells_of es)))) [ true ↦ refl | false ↦ refl ]

    pub cells_joined : ((a : Row) → Has cells a → HasPartner a) → (rows : List Row) → IsAnswer joined (overlay db []) params rows
        → (ordered : List Output) × IsPermutation (map (λ a. show a (partner a)) (filter p cells)) ordered × IsSorted (output_cmp joined) ordered × (rows ≡ map (λ (o : Output). o.1) ordered)
    cells_joined each rows a =
        let there : (e : Entry) → Has h.entries e → HasPartner (cells_of e) = λ e has. each (cells_of e) (subst (λ l. Has l (cells_of e)) (sym h.cells_are) (has_map cells_of h.entries e has)) in
        let found : a.kept ≡ map (output joined) (flat_map (λ r. pairs_of r (map stored k.entries)) (map stored h.entries)) =
        a.distinct ∙ ap (map (output joined)) (a.grouped ∙ ap₂ (λ l m. flat_map (λ r. pairs_of r m) l) (same_tree db tree ∙ h.rows_are) (same_tree db other ∙ k.rows_are)) in
        let are = found ∙ joins_are h.entries there ∙ ap (λ l. map (λ a. show a (partner a)) (filter p l)) (sym h.cells_are) in
        (a.ordered, subst (λ l. IsPermutation l a.ordered) are a.same, a.sorted, a.shown)

-- the same by cells, under a unique index over the key
module _ (schema : Schema) (table : Table) (listed : Has schema.tables table) (index : Index) (indexed : Has schema.indexes index) (guarding : guards index table ≡ true) (key : Row) (places : List ℕ)
    (agrees : (n : ℤ) (cells : Row) → has_key key cells ≡ true → agree index.order index.columns (Int n ∷ cells) places key ≡ true) (db : Trees) (fits : Fits schema db) (cells : List Row)
    (h : IsHeld (db table.tree) cells) (terms : List Term) (params : Row) (meets : (n : ℤ) (cells : Row) → list_all (holds (params ∷ (Int n ∷ cells) ∷ [])) terms ≡ has_key key cells) where
  pub found_by_key : (project : List Term) (order : List (Term × Key)) (rows : List Row) → IsAnswer (over_table table.tree terms project order).body (overlay db []) params rows
      → rows ≡ map (λ e. eval_all project (params ∷ stored e ∷ [])) (filter (λ e. has_key key (cells_of e)) h.entries)
  found_by_key project order rows a =
      entries_found db table.tree terms project order params cells h (has_key key) meets rows (one_entry schema table listed index indexed guarding key places agrees db fits cells h) a

  pub cells_by_key : (project : List Term) (show : Row → Row) → ((n : ℤ) (cells : Row) → eval_all project (params ∷ (Int n ∷ cells) ∷ []) ≡ show cells) → (order : List (Term × Key)) (rows : List Row)
      → IsAnswer (over_table table.tree terms project order).body (overlay db []) params rows → rows ≡ map show (filter (has_key key) cells)
  cells_by_key project show shows order rows a =
      found_by_key project order rows a ∙ map_same _ (λ e. show (cells_of e)) (λ e. shows (id_of e) (cells_of e)) _ ∙ sym (map-map show cells_of _) ∙ ap (map show) (sym (filter-entries (has_key key) h.entries))
      ∙ sym (ap (λ l. map show (filter (has_key key) l)) h.cells_are)

pub first_shown : {X Y : Type 0} (show : X → Y) (p : X → Bool) (xs : List X) → slice_get (map show (filter p xs)) 0 ≡ option_map show (find p xs)
first_shown show p xs = slice_get-map show (filter p xs) 0 ∙ ap (option_map show) (slice_get-filter p xs)
