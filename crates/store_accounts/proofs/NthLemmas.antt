-- The query for one copy of a folder, after that many.
use Rattle.std.proofs.Common.{◌≡◌, ℕ, zero, suc, ℤ, pos, ◌<◌, List, [], ◌∷◌, map, filter, take, drop, slice_get, unwrap_or, Option, Some, None, option_map, Ok, Err, Result, IfOk, refl, sym, ap, ◌∙◌, subst, arith, Less, IsPermutation}
use Rattle.std.proofs.lemmas.Int.{ints}
use Rattle.std.proofs.lemmas.Option.{slice_get-map}
use Rattle.std.proofs.lemmas.List.Sorted.{IsPermutation-map, IsPermutation-trans}
use Rattle.sqlite_value.specs.declared.value.Value.TheVariants.{Int, Blob}
use Rattle.sqlite_value.specs.declared.keys.Collation.TheVariants.{Binary}
use Rattle.sqlite_value.specs.Keys.{ascending}
use Rattle.sqlite_value.specs.Order.{Row, column}
use Rattle.sqlite_value.proofs.OrderLemmas.{value_cmp-Int}
use Rattle.sqlite_sql.specs.Term.{col}
use Rattle.sqlite_sql.specs.Query.{Query, Output, output_cmp, as_count}
use Rattle.sqlite_sql.proofs.QueryLemmas.{output_cmp_total}
use Rattle.sqlite_keyed.proofs.ListLemmas.{map-map, filter-map, filter_same, ascending-map, ascending-filter, ascending_weaker, IsPermutation-filter}
use Rattle.sqlite_keyed.proofs.KeyedLemmas.{Less-from_lt}
use Rattle.sqlite_keyed.proofs.SortLemmas.{sorted_unique}
use Rattle.sqlite_typed.proofs.TestLemmas.{last_key}
use Rattle.sqlite.specs.State.{State, Shown}
use Rattle.store_tables.specs.Forms.{nth_over}
use Rattle.store_tables.specs.Rows.{Tables, HoldsTables, has_key}
use Rattle.store_tables.proofs.AnswerLemmas.{nth_in_order}
use Rattle.store_tables.proofs.ReadLemmas.{answered_nth}
use Rattle.store_tables.proofs.ListLemmas.{pair_key}
use Rattle.store_tables.specs.Schema.{mail_schema}
use Rattle.store_tables.specs.CopyTable.{copy, copy_tree, select_nth}
use Rattle.store_tables.proofs.SchemaFacts.{copy_listed}
use Rattle.store_tables.proofs.TextFacts.{by_two, filings_shown, select_nth_is, select_nth_plain}
use Rattle.store_accounts.specs.declared.filing.Filing.{Filing}
use Rattle.store_accounts.specs.FirstCells.{first_four}
use Rattle.store_accounts.specs.CopyRows.{Copy, copy_row, filing_of, filing_cells, is_in}
use Rattle.store_accounts.specs.Shows.{rows_of, IsShown, AreNthRows, IsNthFiling}
use Rattle.store_accounts.proofs.AccountLemmas.{pair_is}
use Rattle.store_accounts.proofs.OrderLemmas.{of_owner}

abbrev by_copy : Query
by_copy = (nth_over (col 0 2) copy_tree by_two filings_shown ((col 1 3, ascending Binary) ∷ [])).body

filing_output : Copy → Output
filing_output c = (Int (pos c.n) ∷ [], filing_cells (filing_of c))

filings_rise : (x y : Copy) → x.n < y.n → output_cmp by_copy (filing_output x) (filing_output y) ≡ Less
unfolding filing_output
filings_rise x y low = last_key (value_cmp-Int (pos x.n) (pos y.n) ∙ Less-from_lt (pos x.n) (pos y.n) (omega (arith, ints)))

-- what the query is asked with
abbrev pub nth_params : List ℕ → List ℕ → ℤ → Row
nth_params owner folder count = Blob owner ∷ Blob folder ∷ Int count ∷ []

module _ (old new : State) (rows : List Row) (tables : Tables) (h : HoldsTables mail_schema old.now tables) (owner folder : List ℕ) (count : ℤ) where
  pub nth_read : Shown select_nth (nth_params owner folder count) old new rows → AreNthRows owner folder count rows (rows_of owner tables)
  unfolding filing_output
  nth_read shown a s n given =
      let copies = s.copies.entries in
      let key = pair_key owner folder in
      let p = has_key key in
      let few = filter (is_in folder) copies in
      let show = λ (cells : Row). let o : Output = (column cells 2 ∷ [], column cells 1 ∷ column cells 2 ∷ column cells 3 ∷ column cells 4 ∷ []) in o in
      let found = nth_in_order old.now.trees copy_tree by_two filings_shown ((col 1 3, ascending Binary) ∷ []) (nth_params owner folder count) (tables copy_tree) (h.each copy copy_listed) p (λ n cells. refl) (col 0 2) show (λ n cells. refl) rows
      (answered_nth mail_schema select_nth (nth_params owner folder count) old new h.is select_nth_plain.0 (col 0 2) copy_tree by_two filings_shown _ _ select_nth_is select_nth_plain.1 rows shown) in
      let mine : filter p (map (copy_row owner) copies) ≡ map (copy_row owner) few =
      filter-map p (copy_row owner) copies ∙ ap (map (copy_row owner)) (filter_same _ (is_in folder) (λ c. pair_is owner folder c.folder (Int (pos c.n) ∷ Int (pos c.id) ∷ Blob c.flags ∷ [])) copies) in
      let cells : IsPermutation (map (copy_row owner) few) (filter p (tables copy_tree)) =
      subst (λ l. IsPermutation l (filter p (tables copy_tree))) mine (subst (IsPermutation _) (sym (of_owner owner folder tables copy_tree)) (IsPermutation-filter p _ _ s.copies.numbered.rows_are)) in
      let outs : IsPermutation (map filing_output few) (map show (filter p (tables copy_tree))) =
      subst (λ l. IsPermutation l (map show (filter p (tables copy_tree)))) (map-map show (copy_row owner) few) (IsPermutation-map show _ _ cells) in
      let rising = ascending-map (λ x y. output_cmp by_copy x y ≡ Less) filing_output few
      (ascending-filter (λ c d. output_cmp by_copy (filing_output c) (filing_output d) ≡ Less) (is_in folder) copies
      (ascending_weaker _ (λ c d. output_cmp by_copy (filing_output c) (filing_output d) ≡ Less) filings_rise copies s.copies.numbered.rise)) in
      let is = sorted_unique (output_cmp by_copy) (output_cmp_total by_copy) (map filing_output few) found.0 rising (IsPermutation-trans _ _ _ outs found.1) found.2 in
      let many : unwrap_or (as_count (Int count)) 0 ≡ n = ap (λ i. unwrap_or (as_count (Int i)) 0) given in
      found.3 ∙ ap (λ k. take 1 (drop k (map (λ (o : Output). o.1) found.0))) many ∙ ap (λ (l : List Output). take 1 (drop n (map (λ (o : Output). o.1) l))) is
      ∙ ap (λ l. take 1 (drop n l)) (map-map (λ (o : Output). o.1) filing_output few ∙ sym (map-map filing_cells filing_of few))

-- ---- what was read of it

nth_taken : {X : Type 0} (n : ℕ) (xs : List X) → slice_get (take 1 (drop n xs)) 0 ≡ slice_get xs n
nth_taken zero [] = refl
nth_taken zero (x ∷ xs) = refl
nth_taken (suc n) [] = refl
nth_taken (suc n) (x ∷ xs) = nth_taken n xs

twice : (o : Option Copy) → option_map filing_cells (option_map filing_of o) ≡ option_map (λ c. filing_cells (filing_of c)) o
twice None = refl
twice (Some c) = refl

cells_read : (o : Option Copy) → option_map first_four (option_map (λ c. filing_cells (filing_of c)) o) ≡ option_map (λ c. filing_cells (filing_of c)) o
cells_read None = refl
cells_read (Some c) = refl

one_filing : (x y : Option Filing) → option_map filing_cells x ≡ option_map filing_cells y → x ≡ y
one_filing None None e = refl
one_filing None (Some y) e = absurd (let no = e in cc)
one_filing (Some x) None e = absurd (let no = e in cc)
one_filing (Some x) (Some y) e =
    let folder : x.folder ≡ y.folder = cc in
    let n : x.n ≡ y.n = cc in
    let id : x.id ≡ y.id = cc in
    let flags : x.flags ≡ y.flags = cc in
    λ i. Some (record { folder = folder i; n = n i; id = id i; flags = flags i })

pub nth_filing_is : {E : Type 0} (user folder : List ℕ) (count : ℤ) (r : Result (Option Filing) E) (rows : List Row) (own : Tables) → AreNthRows user folder count rows own
    → IfOk r (λ filing. option_map filing_cells filing ≡ option_map first_four (slice_get rows 0)) → IfOk r (λ filing. IsNthFiling user folder count filing own)
nth_filing_is user folder count (Err e) rows own are h = tt
nth_filing_is user folder count (Ok filing) rows own are h = λ a s n given.
    let few = filter (is_in folder) s.copies.entries in
    let shown = map filing_cells (map filing_of few) in
    let row : slice_get rows 0 ≡ option_map (λ c. filing_cells (filing_of c)) (slice_get few n) =
    ap (λ l. slice_get l 0) (are a s n given) ∙ nth_taken n shown ∙ ap (λ l. slice_get l n) (map-map filing_cells filing_of few) ∙ slice_get-map (λ c. filing_cells (filing_of c)) few n in
    one_filing filing (option_map filing_of (slice_get few n)) (h ∙ ap (option_map first_four) row ∙ cells_read (slice_get few n) ∙ sym (twice (slice_get few n)))
