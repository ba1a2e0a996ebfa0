-- The query for the numbers of a folder's copies.
use Rattle.std.proofs.Common.{◌≡◌, ℕ, pos, ◌<◌, List, [], ◌∷◌, map, filter, length, Ok, Err, Result, IfOk, refl, sym, ap, ◌∙◌, subst, arith, Less, IsPermutation}
use Rattle.std.proofs.lemmas.Int.{ints}
use Rattle.std.proofs.lemmas.List.{length-map}
use Rattle.std.proofs.lemmas.List.Sorted.{IsPermutation-map, IsPermutation-trans}
use Rattle.sqlite_value.specs.declared.value.Value.TheVariants.{Int, Blob}
use Rattle.sqlite_value.specs.declared.keys.Collation.TheVariants.{Binary}
use Rattle.sqlite_value.specs.Keys.{ascending}
use Rattle.sqlite_value.specs.Order.{Row, column}
use Rattle.sqlite_value.proofs.OrderLemmas.{value_cmp-Int}
use Rattle.sqlite_sql.specs.Term.{col}
use Rattle.sqlite_sql.specs.Query.{Query, Output, output_cmp}
use Rattle.sqlite_sql.proofs.QueryLemmas.{output_cmp_total}
use Rattle.sqlite_keyed.proofs.ListLemmas.{map-map, filter-map, filter_same, ascending-map, ascending-filter, ascending_weaker, IsPermutation-filter}
use Rattle.sqlite_keyed.proofs.KeyedLemmas.{Less-from_lt}
use Rattle.sqlite_keyed.proofs.SortLemmas.{sorted_unique}
use Rattle.sqlite_typed.proofs.TestLemmas.{last_key}
use Rattle.sqlite.specs.State.{State, Shown}
use Rattle.store_tables.specs.Forms.{over_table}
use Rattle.store_tables.specs.Rows.{Tables, HoldsTables, has_key}
use Rattle.store_tables.proofs.AnswerLemmas.{cells_in_order}
use Rattle.store_tables.proofs.ReadLemmas.{answered}
use Rattle.store_tables.proofs.ListLemmas.{pair_key}
use Rattle.store_tables.specs.Schema.{mail_schema}
use Rattle.store_tables.specs.CopyTable.{copy, copy_tree, select_numbers}
use Rattle.store_tables.proofs.SchemaFacts.{copy_listed}
use Rattle.store_tables.proofs.TextFacts.{by_two, select_numbers_is, select_numbers_plain}
use Rattle.store_accounts.specs.Account.{Account, messages_in}
use Rattle.store_accounts.specs.FirstCells.{first_one}
use Rattle.store_accounts.specs.CopyRows.{Copy, copy_row, is_in}
use Rattle.store_accounts.specs.FolderNumbers.{numbers_in, number_cells, AreNumberRows, AreNumbersOf}
use Rattle.store_accounts.specs.Shows.{rows_of, IsShown}
use Rattle.store_accounts.proofs.AccountLemmas.{pair_is}
use Rattle.store_accounts.proofs.OneLemmas.{map_one}
use Rattle.store_accounts.proofs.OrderLemmas.{of_owner, messages_are}

abbrev by_copy : Query
by_copy = (over_table copy_tree by_two (col 1 3 ∷ []) ((col 1 3, ascending Binary) ∷ [])).body

listed_output : Copy → Output
listed_output c = (Int (pos c.n) ∷ [], number_cells c.n)

listed_rise : (x y : Copy) → x.n < y.n → output_cmp by_copy (listed_output x) (listed_output y) ≡ Less
unfolding listed_output
listed_rise x y low = last_key (value_cmp-Int (pos x.n) (pos y.n) ∙ Less-from_lt (pos x.n) (pos y.n) (omega (arith, ints)))

module _ (old new : State) (rows : List Row) (tables : Tables) (h : HoldsTables mail_schema old.now tables) (owner folder : List ℕ) where
  pub numbers_read : Shown select_numbers (pair_key owner folder) old new rows → AreNumberRows owner folder rows (rows_of owner tables)
  unfolding listed_output
  numbers_read shown a s =
      let copies = s.copies.entries in
      let key = pair_key owner folder in
      let p = has_key key in
      let few = filter (is_in folder) copies in
      let show = λ (cells : Row). let o : Output = (column cells 2 ∷ [], column cells 2 ∷ []) in o in
      let found = cells_in_order old.now.trees copy_tree by_two (col 1 3 ∷ []) ((col 1 3, ascending Binary) ∷ []) key (tables copy_tree) (h.each copy copy_listed) p (λ n cells. refl) show (λ n cells. refl) rows
      (answered mail_schema select_numbers key old new h.is select_numbers_plain.0 copy_tree by_two (col 1 3 ∷ []) _ _ select_numbers_is select_numbers_plain.1 rows shown) in
      let mine : filter p (map (copy_row owner) copies) ≡ map (copy_row owner) few =
      filter-map p (copy_row owner) copies ∙ ap (map (copy_row owner)) (filter_same _ (is_in folder) (λ c. pair_is owner folder c.folder (Int (pos c.n) ∷ Int (pos c.id) ∷ Blob c.flags ∷ [])) copies) in
      let cells : IsPermutation (map (copy_row owner) few) (filter p (tables copy_tree)) =
      subst (λ l. IsPermutation l (filter p (tables copy_tree))) mine (subst (IsPermutation _) (sym (of_owner owner folder tables copy_tree)) (IsPermutation-filter p _ _ s.copies.numbered.rows_are)) in
      let outs : IsPermutation (map listed_output few) (map show (filter p (tables copy_tree))) =
      subst (λ l. IsPermutation l (map show (filter p (tables copy_tree)))) (map-map show (copy_row owner) few) (IsPermutation-map show _ _ cells) in
      let rising = ascending-map (λ x y. output_cmp by_copy x y ≡ Less) listed_output few
      (ascending-filter (λ c d. output_cmp by_copy (listed_output c) (listed_output d) ≡ Less) (is_in folder) copies
      (ascending_weaker _ (λ c d. output_cmp by_copy (listed_output c) (listed_output d) ≡ Less) listed_rise copies s.copies.numbered.rise)) in
      let is = sorted_unique (output_cmp by_copy) (output_cmp_total by_copy) (map listed_output few) found.0 rising (IsPermutation-trans _ _ _ outs found.1) found.2 in
      found.3 ∙ ap (map (λ (o : Output). o.1)) is ∙ map-map (λ (o : Output). o.1) listed_output few ∙ sym (map-map number_cells (λ (c : Copy). c.n) few)

pub number_one : (x y : ℕ) → number_cells x ≡ number_cells y → x ≡ y
number_one x y e = cc

pub numbers_are : {E : Type 0} (user folder : List ℕ) (r : Result (List ℕ) E) (rows : List Row) (own : Tables) → AreNumberRows user folder rows own → IfOk r (λ all. map number_cells all ≡ map first_one rows) → IfOk r (λ all. AreNumbersOf user folder all own)
numbers_are user folder (Err e) rows own are h = tt
numbers_are user folder (Ok all) rows own are h = λ a s.
    map_one number_cells number_one all (numbers_in folder s.copies.entries) (h ∙ ap (map first_one) (are a s) ∙ map-map first_one number_cells (numbers_in folder s.copies.entries))

-- as many as messages
pub as_many : (user folder : List ℕ) (numbers : List ℕ) (own : Tables) (a : Account) → IsShown user own a → AreNumbersOf user folder numbers own → length numbers ≡ length (messages_in a.folders folder)
as_many user folder numbers own a s are =
    let few = filter (is_in folder) s.copies.entries in
    ap length (are a s) ∙ length-map few (λ (c : Copy). c.n) ∙ sym (length-map few (λ (c : Copy). c.message)) ∙ sym (ap length (ap (λ m. messages_in m folder) s.copies.shown ∙ messages_are s.copies.entries folder))

-- ---- examples

-- of two copies in one folder and one in another: the two numbers, in the order of the copies
abbrev three : List Copy
three = record { folder = 97 ∷ []; n = 1; id = 1; message = []; flags = [] } ∷ record { folder = 98 ∷ []; n = 2; id = 1; message = []; flags = [] } ∷ record { folder = 97 ∷ []; n = 5; id = 5; message = []; flags = [] } ∷ []

two-numbers : numbers_in (97 ∷ []) three ≡ 1 ∷ 5 ∷ []
two-numbers = refl

-- and not the messages' numbers, nor those of another folder
other-number : numbers_in (98 ∷ []) three ≡ 1 ∷ [] → ⊥
other-number e = cc

no-numbers : numbers_in (99 ∷ []) three ≡ []
no-numbers = refl
