-- The queries for the numbers of a user's notices, and for one notice.
use Rattle.std.proofs.Common.{◌≡◌, ◌==◌, ◌<◌, ℕ, ℤ, pos, List, [], ◌∷◌, codes, map, filter, find, false, slice_get, Option, Some, None, option_map, Ok, Err, Result, IfOk, refl, sym, ap, ◌∙◌, subst, arith, Less, IsPermutation}
use Rattle.std.proofs.lemmas.Int.{ints}
use Rattle.std.proofs.lemmas.List.Sorted.{IsPermutation-map, IsPermutation-trans}
use Rattle.sqlite_value.specs.declared.value.Value.TheVariants.{Int}
use Rattle.sqlite_value.specs.declared.keys.Collation.TheVariants.{Binary}
use Rattle.sqlite_value.specs.Keys.{ascending}
use Rattle.sqlite_value.specs.Order.{Row, column}
use Rattle.sqlite_value.proofs.OrderLemmas.{value_cmp-Int}
use Rattle.sqlite_schema.specs.declared.command.Command.TheVariants.{Select}
use Rattle.sqlite_sql.specs.declared.ops.CompareOp.TheVariants.{Eq}
use Rattle.sqlite_sql.specs.Term.{col}
use Rattle.sqlite_sql.specs.Query.{Query, Output, output_cmp}
use Rattle.sqlite_sql.proofs.QueryLemmas.{output_cmp_total}
use Rattle.sqlite_tied.specs.Compute.{everything}
use Rattle.sqlite_keyed.proofs.ListLemmas.{map-map, filter-map, filter_same, filter-filter, ascending-map, ascending_weaker, IsPermutation-filter}
use Rattle.sqlite_keyed.proofs.KeyedLemmas.{Less-from_lt}
use Rattle.sqlite_keyed.proofs.SortLemmas.{sorted_unique}
use Rattle.sqlite_typed.proofs.TestLemmas.{at_ints, last_key, last_term}
use Rattle.sqlite.specs.Listing.{understood, reads_listing}
use Rattle.sqlite.specs.State.{State, Shown}
use Rattle.sqlite.proofs.Callers.{IsPlain, command_of}
use Rattle.store_tables.specs.Forms.{over_table}
use Rattle.store_tables.specs.MessageTable.{message_key}
use Rattle.store_tables.specs.NoticeTable.{notice, notice_tree}
use Rattle.store_tables.specs.Rows.{Tables, HoldsTables, has_key}
use Rattle.store_tables.specs.Schema.{mail_schema}
use Rattle.store_tables.proofs.AnswerLemmas.{cells_in_order}
use Rattle.store_tables.proofs.ListLemmas.{owner_key, equal_itself}
use Rattle.store_tables.proofs.ReadLemmas.{answered}
use Rattle.store_tables.proofs.SchemaFacts.{notice_listed}
use Rattle.store_tables.proofs.TextFacts.{by_one, by_two, notices_shown}
use Rattle.store_accounts.specs.declared.notice.Notice.{Notice}
use Rattle.store_accounts.specs.Account.{Account}
use Rattle.store_accounts.specs.FirstCells.{first_one, first_two}
use Rattle.store_accounts.specs.FolderNumbers.{number_cells}
use Rattle.store_accounts.specs.Listing.{select_notice, select_notice_numbers, notice_with, AreNoticeNumberRows, AreNoticeNumbersOf, HasNoticeRow, IsNoticeOf}
use Rattle.store_accounts.specs.NoticeRows.{notice_cells, notice_row}
use Rattle.store_accounts.specs.Shows.{rows_of, IsShown}
use Rattle.store_accounts.proofs.AccountLemmas.{same_numbers}
use Rattle.store_accounts.proofs.DecodeLemmas.{noticed_one}
use Rattle.store_accounts.proofs.KeyLemmas.{key_owned}
use Rattle.store_accounts.proofs.KeyedLemmas.{listed, numbered, permuted}
use Rattle.store_accounts.proofs.ListedLemmas.{number_one}
use Rattle.store_accounts.proofs.OneLemmas.{map_one}

-- ---- the numbers

select_notice_numbers_is : command_of (understood mail_schema select_notice_numbers) ≡ Select (over_table notice_tree by_one (col 1 2 ∷ []) ((col 1 2, ascending Binary) ∷ [])) (codes "id" ∷ [])
unfolding understood everything
select_notice_numbers_is = refl

pub select_notice_numbers_plain : IsPlain (understood mail_schema select_notice_numbers) × (reads_listing mail_schema select_notice_numbers ≡ false)
unfolding understood everything
select_notice_numbers_plain = ((refl, refl), refl)

abbrev by_number : Query
by_number = (over_table notice_tree by_one (col 1 2 ∷ []) ((col 1 2, ascending Binary) ∷ [])).body

number_output : ℕ × Notice → Output
number_output e = (Int (pos e.0) ∷ [], number_cells e.0)

numbers_rise : (x y : ℕ × Notice) → x.0 < y.0 → output_cmp by_number (number_output x) (number_output y) ≡ Less
unfolding number_output
numbers_rise x y low = last_key (value_cmp-Int (pos x.0) (pos y.0) ∙ Less-from_lt (pos x.0) (pos y.0) (omega (arith, ints)))

module _ (old new : State) (rows : List Row) (tables : Tables) (h : HoldsTables mail_schema old.now tables) (owner : List ℕ) where
  pub notice_numbers_read : Shown select_notice_numbers (owner_key owner) old new rows → AreNoticeNumberRows owner rows (rows_of owner tables)
  unfolding number_output
  notice_numbers_read shown a s =
      let entries = s.notices.entries in
      let p = has_key (owner_key owner) in
      let show = λ (cells : Row). let o : Output = (column cells 1 ∷ [], column cells 1 ∷ []) in o in
      let found = cells_in_order old.now.trees notice_tree by_one (col 1 2 ∷ []) ((col 1 2, ascending Binary) ∷ []) (owner_key owner) (tables notice_tree) (h.each notice notice_listed) p (λ n cells. refl) show (λ n cells. refl) rows
      (answered mail_schema select_notice_numbers (owner_key owner) old new h.is select_notice_numbers_plain.0 notice_tree by_one (col 1 2 ∷ []) _ _ select_notice_numbers_is select_notice_numbers_plain.1 rows shown) in
      let outs : IsPermutation (map number_output entries) (map show (filter p (tables notice_tree))) =
      subst (λ l. IsPermutation l (map show (filter p (tables notice_tree)))) (map-map show (notice_row owner) entries) (IsPermutation-map show _ _ s.notices.numbered.rows_are) in
      let rising = ascending-map (λ x y. output_cmp by_number x y ≡ Less) number_output entries (ascending_weaker _ (λ x y. output_cmp by_number (number_output x) (number_output y) ≡ Less) numbers_rise entries s.notices.numbered.rise) in
      let is = sorted_unique (output_cmp by_number) (output_cmp_total by_number) (map number_output entries) found.0 rising (IsPermutation-trans _ _ _ outs found.1) found.2 in
      found.3 ∙ ap (map (λ (o : Output). o.1)) is ∙ map-map (λ (o : Output). o.1) number_output entries ∙ sym (map-map number_cells (λ (e : ℕ × Notice). e.0) entries)

pub notice_numbers_are : {E : Type 0} (user : List ℕ) (r : Result (List ℕ) E) (rows : List Row) (own : Tables) → AreNoticeNumberRows user rows own → IfOk r (λ all. map number_cells all ≡ map first_one rows) → IfOk r (λ all. AreNoticeNumbersOf user all own)
notice_numbers_are user (Err e) rows own are h = tt
notice_numbers_are user (Ok all) rows own are h = λ a s.
    let numbers = map (λ (e : ℕ × Notice). e.0) s.notices.entries in
    map_one number_cells number_one all numbers (h ∙ ap (map first_one) (are a s) ∙ map-map first_one number_cells numbers)

-- ---- one notice

select_notice_is : command_of (understood mail_schema select_notice) ≡ Select (over_table notice_tree by_two notices_shown []) (codes "moment" ∷ codes "text" ∷ [])
unfolding understood everything
select_notice_is = refl

pub select_notice_plain : IsPlain (understood mail_schema select_notice) × (reads_listing mail_schema select_notice ≡ false)
unfolding understood everything
select_notice_plain = ((refl, refl), refl)

-- a row of a notice has a key of its owner and a number where the number is that
notice_is : (user : List ℕ) (id : ℕ) (e : ℕ × Notice) → has_key (message_key user (pos id)) (notice_row user e) ≡ (e.0 == id)
notice_is user id e = rw (equal_itself user) (last_term (at_ints false Eq (pos e.0) (pos id)) ∙ same_numbers e.0 id)

noticed : ℕ × Notice → Output
noticed e = ([], notice_cells e.1)

first_noticed : (o : Option (ℕ × Notice)) → slice_get (map (λ (x : Output). x.1) (map noticed (listed o))) 0 ≡ option_map notice_cells (option_map (λ e. e.1) o)
unfolding noticed listed
first_noticed None = refl
first_noticed (Some e) = refl

module _ (old new : State) (rows : List Row) (tables : Tables) (h : HoldsTables mail_schema old.now tables) (owner : List ℕ) (id : ℤ) where
  pub notice_read : Shown select_notice (message_key owner id) old new rows → HasNoticeRow owner id rows (rows_of owner tables)
  unfolding noticed
  notice_read shown a s n given =
      let entries = s.notices.entries in
      let key = message_key owner id in
      let p = has_key key in
      let one = find (λ (e : ℕ × Notice). e.0 == n) entries in
      let show = λ (cells : Row). let o : Output = ([], column cells 2 ∷ column cells 3 ∷ []) in o in
      let found = cells_in_order old.now.trees notice_tree by_two notices_shown [] key (tables notice_tree) (h.each notice notice_listed) p (λ n cells. refl) show (λ n cells. refl) rows
      (answered mail_schema select_notice key old new h.is select_notice_plain.0 notice_tree by_two notices_shown [] _ select_notice_is select_notice_plain.1 rows shown) in
      let few : filter p (map (notice_row owner) entries) ≡ map (notice_row owner) (listed one) =
      filter-map p (notice_row owner) entries
      ∙ ap (map (notice_row owner)) (filter_same _ (λ e. e.0 == n) (λ e. ap (λ i. has_key (message_key owner i) (notice_row owner e)) given ∙ notice_is owner n e) entries ∙ numbered (λ e. e.0) (notice_row owner) n entries s.notices.numbered.rise) in
      let mine : IsPermutation (map (notice_row owner) (listed one)) (filter p (rows_of owner tables notice_tree)) =
      subst (λ l. IsPermutation l (filter p (rows_of owner tables notice_tree))) few (IsPermutation-filter p _ _ s.notices.numbered.rows_are) in
      let same = filter-filter p (has_key (owner_key owner)) (key_owned owner (Int id ∷ [])) (tables notice_tree) in
      let outs : IsPermutation (map noticed (listed one)) (map show (filter p (tables notice_tree))) =
      subst (λ l. IsPermutation l (map show (filter p (tables notice_tree)))) (map-map show (notice_row owner) (listed one)) (IsPermutation-map show _ _ (subst (IsPermutation (map (notice_row owner) (listed one))) same mine)) in
      ap (λ l. slice_get l 0) (found.3 ∙ ap (map (λ (o : Output). o.1)) (permuted noticed one found.0 (IsPermutation-trans _ _ _ outs found.1))) ∙ first_noticed one

first_two_read : (o : Option Notice) → option_map first_two (option_map notice_cells o) ≡ option_map notice_cells o
first_two_read None = refl
first_two_read (Some e) = refl

same_notice : (x y : Option Notice) → option_map notice_cells x ≡ option_map notice_cells y → x ≡ y
same_notice None None e = refl
same_notice None (Some y) e = absurd (let no = e in cc)
same_notice (Some x) None e = absurd (let no = e in cc)
same_notice (Some x) (Some y) e = ap Some (noticed_one x y (let same : notice_cells x ≡ notice_cells y = cc in same))

pub notice_told : {E : Type 0} (user : List ℕ) (n : ℕ) (r : Result (Option Notice) E) (rows : List Row) (own : Tables) → HasNoticeRow user (pos n) rows own → IfOk r (λ first. option_map notice_cells first ≡ option_map first_two (slice_get rows 0))
    → IfOk r (λ first. IsNoticeOf user n first own)
notice_told user n (Err e) rows own has h = tt
notice_told user n (Ok first) rows own has h = λ a s.
    let one = notice_with n s.notices.entries in
    same_notice first one (h ∙ ap (option_map first_two) (has a s n refl) ∙ first_two_read one)
