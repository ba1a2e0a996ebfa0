-- The query for all copies of a user.
use Rattle.std.proofs.Common.{◌≡◌, ◌<◌, pos, List, [], ◌∷◌, codes, map, filter, false, Ok, Err, Result, IfOk, refl, sym, ap, ◌∙◌, subst, arith, Less, IsPermutation, ℕ}
use Rattle.std.proofs.lemmas.Int.{ints}
use Rattle.std.proofs.lemmas.List.Sorted.{IsPermutation-map, IsPermutation-trans}
use Rattle.sqlite_value.specs.declared.value.Value.TheVariants.{Int}
use Rattle.sqlite_value.specs.declared.keys.Collation.TheVariants.{Binary}
use Rattle.sqlite_value.specs.Keys.{ascending}
use Rattle.sqlite_value.specs.Order.{Row, column}
use Rattle.sqlite_value.proofs.OrderLemmas.{value_cmp-Int}
use Rattle.sqlite_schema.specs.declared.command.Command.TheVariants.{Select}
use Rattle.sqlite_tied.specs.Compute.{everything}
use Rattle.sqlite_sql.specs.Term.{col}
use Rattle.sqlite_sql.specs.Query.{Query, Output, output_cmp}
use Rattle.sqlite_sql.proofs.QueryLemmas.{output_cmp_total}
use Rattle.sqlite_keyed.proofs.ListLemmas.{map-map, ascending-map, ascending_weaker}
use Rattle.sqlite_keyed.proofs.KeyedLemmas.{Less-from_lt}
use Rattle.sqlite_keyed.proofs.SortLemmas.{sorted_unique}
use Rattle.sqlite_typed.proofs.TestLemmas.{last_key}
use Rattle.sqlite.specs.Listing.{understood, reads_listing}
use Rattle.sqlite.specs.State.{State, Shown}
use Rattle.sqlite.proofs.Callers.{IsPlain, command_of}
use Rattle.store_tables.specs.Forms.{over_table}
use Rattle.store_tables.specs.Rows.{Tables, HoldsTables, has_key}
use Rattle.store_tables.specs.Schema.{mail_schema}
use Rattle.store_tables.specs.CopyTable.{copy, copy_tree}
use Rattle.store_tables.proofs.AnswerLemmas.{cells_in_order}
use Rattle.store_tables.proofs.ListLemmas.{owner_key}
use Rattle.store_tables.proofs.ReadLemmas.{answered}
use Rattle.store_tables.proofs.SchemaFacts.{copy_listed}
use Rattle.store_tables.proofs.TextFacts.{by_one, filings_shown}
use Rattle.store_accounts.specs.declared.filing.Filing.{Filing}
use Rattle.store_accounts.specs.CopyRows.{Copy, copy_row, filing_of, filing_cells}
use Rattle.store_accounts.specs.FirstCells.{first_four}
use Rattle.store_accounts.specs.Listing.{select_filings, AreFilingRows, AreFilingsOf}
use Rattle.store_accounts.specs.Shows.{rows_of}
use Rattle.store_accounts.proofs.OneLemmas.{map_one}

select_filings_is : command_of (understood mail_schema select_filings) ≡ Select (over_table copy_tree by_one filings_shown ((col 1 3, ascending Binary) ∷ [])) (codes "folder" ∷ codes "n" ∷ codes "id" ∷ codes "flags" ∷ [])
unfolding understood everything
select_filings_is = refl

pub select_filings_plain : IsPlain (understood mail_schema select_filings) × (reads_listing mail_schema select_filings ≡ false)
unfolding understood everything
select_filings_plain = ((refl, refl), refl)

abbrev by_copy : Query
by_copy = (over_table copy_tree by_one filings_shown ((col 1 3, ascending Binary) ∷ [])).body

filing_output : Copy → Output
filing_output c = (Int (pos c.n) ∷ [], filing_cells (filing_of c))

filings_rise : (x y : Copy) → x.n < y.n → output_cmp by_copy (filing_output x) (filing_output y) ≡ Less
unfolding filing_output
filings_rise x y low = last_key (value_cmp-Int (pos x.n) (pos y.n) ∙ Less-from_lt (pos x.n) (pos y.n) (omega (arith, ints)))

module _ (old new : State) (rows : List Row) (tables : Tables) (h : HoldsTables mail_schema old.now tables) (owner : List ℕ) where
  pub filings_read : Shown select_filings (owner_key owner) old new rows → AreFilingRows owner rows (rows_of owner tables)
  unfolding filing_output
  filings_read shown a s =
      let copies = s.copies.entries in
      let p = has_key (owner_key owner) in
      let show = λ (cells : Row). let o : Output = (column cells 2 ∷ [], column cells 1 ∷ column cells 2 ∷ column cells 3 ∷ column cells 4 ∷ []) in o in
      let found = cells_in_order old.now.trees copy_tree by_one filings_shown ((col 1 3, ascending Binary) ∷ []) (owner_key owner) (tables copy_tree) (h.each copy copy_listed) p (λ n cells. refl) show (λ n cells. refl) rows
      (answered mail_schema select_filings (owner_key owner) old new h.is select_filings_plain.0 copy_tree by_one filings_shown _ _ select_filings_is select_filings_plain.1 rows shown) in
      let outs : IsPermutation (map filing_output copies) (map show (filter p (tables copy_tree))) =
      subst (λ l. IsPermutation l (map show (filter p (tables copy_tree)))) (map-map show (copy_row owner) copies) (IsPermutation-map show _ _ s.copies.numbered.rows_are) in
      let rising = ascending-map (λ x y. output_cmp by_copy x y ≡ Less) filing_output copies (ascending_weaker _ (λ c d. output_cmp by_copy (filing_output c) (filing_output d) ≡ Less) filings_rise copies s.copies.numbered.rise) in
      let is = sorted_unique (output_cmp by_copy) (output_cmp_total by_copy) (map filing_output copies) found.0 rising (IsPermutation-trans _ _ _ outs found.1) found.2 in
      found.3 ∙ ap (map (λ (o : Output). o.1)) is ∙ map-map (λ (o : Output). o.1) filing_output copies ∙ sym (map-map filing_cells filing_of copies)

filing_one : (x y : Filing) → filing_cells x ≡ filing_cells y → x ≡ y
filing_one x y e =
    let folder : x.folder ≡ y.folder = cc in
    let n : x.n ≡ y.n = cc in
    let id : x.id ≡ y.id = cc in
    let flags : x.flags ≡ y.flags = cc in
    λ i. record { folder = folder i; n = n i; id = id i; flags = flags i }

pub filings_are : {E : Type 0} (user : List ℕ) (r : Result (List Filing) E) (rows : List Row) (own : Tables) → AreFilingRows user rows own → IfOk r (λ all. map filing_cells all ≡ map first_four rows) → IfOk r (λ all. AreFilingsOf user all own)
filings_are user (Err e) rows own are h = tt
filings_are user (Ok all) rows own are h = λ a s.
    map_one filing_cells filing_one all (map filing_of s.copies.entries) (h ∙ ap (map first_four) (are a s) ∙ map-map first_four filing_cells (map filing_of s.copies.entries))
