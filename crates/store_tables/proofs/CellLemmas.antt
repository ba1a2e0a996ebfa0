-- What each kind of edit makes of the rows of one table.
use Rattle.std.proofs.Common.{◌≡◌, ℤ, pos, ◌+ℤ◌, ◌<ℤ◌, Bool, true, false, not, ◌||◌, cond, List, [], ◌∷◌, ◌++◌, map, filter, fold, refl, sym, ap, ◌∙◌, subst, arith, int_cmp, Greater, IsPermutation}
use Rattle.std.specs.List.{AllByRecursion, list_any}
use Rattle.std.proofs.lemmas.List.Sorted.{list_any-IsPermutation}
use Rattle.std.proofs.lemmas.Int.{ints}
use Rattle.std.proofs.lemmas.List.{map-append}
use Rattle.sqlite_value.specs.declared.value.Value.{Value}
use Rattle.sqlite_value.specs.declared.value.Value.TheVariants.{Null, Int}
use Rattle.sqlite_value.specs.Order.{Row}
use Rattle.sqlite_trees.specs.Tree.{rowid, has_rowid, put_row, without_rowid}
use Rattle.sqlite_rules.proofs.ListLemmas.{all_from}
use Rattle.sqlite_sql.specs.Ops.{unary}
use Rattle.sqlite_schema.specs.declared.schema.Kind.TheVariants.{Integer}
use Rattle.sqlite_rules.specs.Cast.{cast}
use Rattle.sqlite_rules.specs.Edit.{next_rowid, without_all, put_all, id_in}
use Rattle.sqlite_keyed.specs.Keyed.{IsKeyedBy, insert_by, next_key}
use Rattle.sqlite_keyed.specs.Lists.{update_where, delete_where}
use Rattle.sqlite_keyed.proofs.ListLemmas.{filter-map, filter_same, filter_all, all_map, all-filter, all_weaker}
use Rattle.sqlite_keyed.proofs.KeyedLemmas.{Less-from_lt, IsKeyedBy-insert_by, IsKeyedBy-delete_where, IsKeyedBy-update_where}
use Rattle.sqlite_keyed.proofs.SliceLemmas.{insert_next}
use Rattle.sqlite_keyed.proofs.WriteLemmas.{removes_delete}
use Rattle.sqlite_typed.proofs.RowLemmas.{puts-map, deletes-map}
use Rattle.store_tables.specs.Rows.{Entry, id_of, cells_of, stored, IsHeld}

either : (b : Bool) (x : Value) → cond b x x ≡ x
either true x = refl
either false x = refl

pub cast_null : cast Integer Null ≡ Null
unfolding unary
cast_null = either _ Null

pub cast_int : (n : ℤ) → cast Integer (Int n) ≡ Int n
unfolding unary
cast_int n = either _ (Int n)

keys_stored : (e : Entry) → rowid (stored e) ≡ Int (id_of e)
keys_stored e = refl

next_is : (es : List Entry) (from : ℤ) → fold (λ _ r. id_in (rowid r) +ℤ pos 1) from (map stored es) ≡ fold (λ _ e. id_of e +ℤ pos 1) from es
next_is [] from = refl
next_is (e ∷ es) from = next_is es (id_of e +ℤ pos 1)

pub held_insert : (rows cells : List Row) (new : Row) → IsHeld rows cells → IsHeld (put_row (Int (next_rowid rows) ∷ new) rows) (cells ++ new ∷ [])
held_insert rows cells new h =
    let at : next_rowid rows ≡ next_key id_of h.entries = ap next_rowid h.rows_are ∙ next_is h.entries (pos 1) in
    let e : Entry = (next_rowid rows, new) in
    let joined = insert_next id_of h.entries e h.keyed at in
    let put : put_row (stored e) rows ≡ map stored (insert_by id_of h.entries e) = ap (put_row (stored e)) h.rows_are ∙ puts-map id_of stored keys_stored (e ∷ []) h.entries in
    record {
      entries = insert_by id_of h.entries e;
      keyed = IsKeyedBy-insert_by id_of h.entries e h.keyed;
      rows_are = put;
      cells_are = ap (λ l. l ++ new ∷ []) h.cells_are ∙ sym (ap (map cells_of) joined ∙ map-append cells_of h.entries (e ∷ []));
    }

pub held_delete : (rows cells : List Row) (p : Row → Bool) (ids : List ℤ) → (h : IsHeld rows cells) → ids ≡ map id_of (filter (λ e. p (cells_of e)) h.entries) → IsHeld (without_all rows ids) (delete_where p cells)
held_delete rows cells p ids h are =
    let q = λ (e : Entry). p (cells_of e) in
    record {
      entries = delete_where q h.entries;
      keyed = IsKeyedBy-delete_where id_of q h.entries h.keyed;
      rows_are = ap (without_all rows) are ∙ ap (λ l. without_all l (map id_of (filter q h.entries))) h.rows_are ∙ deletes-map id_of stored keys_stored (map id_of (filter q h.entries)) h.entries
          ∙ ap (map stored) (removes_delete id_of q h.entries h.keyed);
      cells_are = ap (delete_where p) h.cells_are ∙ filter-map (λ c. not (p c)) cells_of h.entries;
    }

-- rows that pass one test and then another pass both
filter_twice : {X : Type 0} (p q : X → Bool) (xs : List X) → filter (λ x. not (q x)) (filter (λ x. not (p x)) xs) ≡ filter (λ x. not (p x || q x)) xs
filter_twice p q [] = refl
filter_twice {X} p q (x ∷ xs) = go (p x) (filter_twice p q xs)
  where
    go : (b : Bool) → filter (λ y. not (q y)) (filter (λ y. not (p y)) xs) ≡ filter (λ y. not (p y || q y)) xs
        → filter (λ y. not (q y)) (cond (not b) (x ∷ filter (λ y. not (p y)) xs) (filter (λ y. not (p y)) xs)) ≡ cond (not (b || q x)) (x ∷ filter (λ y. not (p y || q y)) xs) (filter (λ y. not (p y || q y)) xs)
    go true more = more
    go false more = ap (λ l. cond (not (q x)) (x ∷ l) l) more

-- rows that are taken out by their numbers: those that have none of these stay
without_is : (rows : List Row) (ids : List ℤ) → without_all rows ids ≡ filter (λ r. not (list_any (λ id. has_rowid id r) ids)) rows
without_is rows [] = sym (filter_all (λ r. true) rows (all_from _ rows (λ r there. refl)))
without_is rows (id ∷ ids) = without_is (without_rowid id rows) ids ∙ filter_twice (has_rowid id) (λ r. list_any (λ i. has_rowid i r) ids) rows

-- in whatever order
without_permuted : (rows : List Row) (ids others : List ℤ) → IsPermutation ids others → without_all rows others ≡ without_all rows ids
without_permuted rows ids others same =
    without_is rows others ∙ filter_same _ _ (λ r. ap not (sym (list_any-IsPermutation (λ id. has_rowid id r) ids others same))) rows ∙ sym (without_is rows ids)

pub held_delete_all : (rows cells : List Row) (p : Row → Bool) (ids : List ℤ) → (h : IsHeld rows cells) → IsPermutation (map id_of (filter (λ e. p (cells_of e)) h.entries)) ids
    → IsHeld (without_all rows ids) (delete_where p cells)
held_delete_all rows cells p ids h are =
    let found = map id_of (filter (λ e. p (cells_of e)) h.entries) in
    subst (λ l. IsHeld l (delete_where p cells)) (sym (without_permuted rows found ids are)) (held_delete rows cells p found h refl)

-- an entry with other cells
abbrev pub changed : (Row → Row) → Entry → Entry
changed f e = (id_of e, f (cells_of e))

update-map : (p : Row → Bool) (f : Row → Row) (es : List Entry) → update_where p f (map cells_of es) ≡ map cells_of (update_where (λ e. p (cells_of e)) (changed f) es)
update-map p f [] = refl
update-map p f (e ∷ es) =
    elim (p (cells_of e)) as (λ b. cond b (f (cells_of e)) (cells_of e) ∷ update_where p f (map cells_of es) ≡ cells_of (cond b (changed f e) e) ∷ map cells_of (update_where (λ x. p (cells_of x)) (changed f) es))
    [ true ↦ ap (λ l. f (cells_of e) ∷ l) (update-map p f es) | false ↦ ap (λ l. cells_of e ∷ l) (update-map p f es) ]

-- what an update takes out and puts back, one row after another
puts_back : (news rows : List Entry) → put_all (map stored rows) (map stored news) ≡ map stored (fold (insert_by id_of) rows news)
puts_back news rows = folded news (map stored rows) ∙ puts-map id_of stored keys_stored news rows
  where
    folded : (es : List Entry) (from : List Row) → put_all from (map stored es) ≡ fold (λ l e. put_row (stored e) l) from es
    folded [] from = refl
    folded (e ∷ es) from = folded es (put_row (stored e) from)

module _ {X : Type 0} (key : X → ℤ) where
  insert_first : (xs : List X) (new : X) → AllByRecursion (λ x. key new <ℤ key x) xs → insert_by key xs new ≡ new ∷ xs
  insert_first [] new above = refl
  insert_first (x ∷ xs) new above =
      let k = above.0 in
      let past : int_cmp (key x) (key new) ≡ Greater = grind (arith, ints) in
      rw past

  puts_past : (news : List X) (x : X) (xs : List X) → AllByRecursion (λ n. key x <ℤ key n) news → fold (insert_by key) (x ∷ xs) news ≡ x ∷ fold (insert_by key) xs news
  puts_past [] x xs above = refl
  puts_past (n ∷ news) x xs above = rw (Less-from_lt (key x) (key n) above.0) (puts_past news x (insert_by key xs n) above.1)

  -- to take rows out and to put them back changed is to change them where they are
  puts_again : (p : X → Bool) (f : X → X) → ((x : X) → key (f x) ≡ key x) → (xs : List X) → IsKeyedBy key xs → fold (insert_by key) (delete_where p xs) (map f (filter p xs)) ≡ update_where p f xs
  puts_again p f keeps [] up = refl
  puts_again p f keeps (x ∷ xs) up = go (p x) (puts_again p f keeps xs up.1)
    where
      above : (y : X) → key y ≡ key x → AllByRecursion (λ n. key y <ℤ key n) (map f (filter p xs))
      above y same = all_map _ f _ (all-filter _ p xs (all_weaker _ (λ n. key y <ℤ key (f n)) (λ n h. rw (same, keeps n) h) xs up.0))

      left : AllByRecursion (λ n. key (f x) <ℤ key n) (delete_where p xs)
      left = all-filter _ (λ y. not (p y)) xs (all_weaker _ (λ n. key (f x) <ℤ key n) (λ n h. rw (keeps x) h) xs up.0)

      go : (b : Bool) → fold (insert_by key) (delete_where p xs) (map f (filter p xs)) ≡ update_where p f xs
          → fold (insert_by key) (cond (not b) (x ∷ delete_where p xs) (delete_where p xs)) (map f (cond b (x ∷ filter p xs) (filter p xs))) ≡ cond b (f x) x ∷ update_where p f xs
      go true more = ap (λ l. fold (insert_by key) l (map f (filter p xs))) (insert_first (delete_where p xs) (f x) left) ∙ puts_past _ (f x) (delete_where p xs) (above (f x) (keeps x)) ∙ ap (λ l. f x ∷ l) more
      go false more = puts_past _ x (delete_where p xs) (above x refl) ∙ ap (λ l. x ∷ l) more

pub held_update : (rows cells : List Row) (p : Row → Bool) (f : Row → Row) (ids : List ℤ) (news : List Row) → (h : IsHeld rows cells) → ids ≡ map id_of (filter (λ e. p (cells_of e)) h.entries)
    → news ≡ map stored (map (changed f) (filter (λ e. p (cells_of e)) h.entries)) → IsHeld (put_all (without_all rows ids) news) (update_where p f cells)
unfolding held_delete
held_update rows cells p f ids news h are again =
    let q = λ (e : Entry). p (cells_of e) in
    let left = held_delete rows cells p ids h are in
    record {
      entries = update_where q (changed f) h.entries;
      keyed = IsKeyedBy-update_where id_of q (changed f) (λ e. refl) h.entries h.keyed;
      rows_are = ap (λ l. put_all l news) left.rows_are ∙ ap (put_all (map stored (delete_where q h.entries))) again ∙ puts_back (map (changed f) (filter q h.entries)) (delete_where q h.entries)
          ∙ ap (map stored) (puts_again id_of q (changed f) (λ e. refl) h.entries h.keyed);
      cells_are = ap (update_where p f) h.cells_are ∙ update-map p f h.entries;
    }
