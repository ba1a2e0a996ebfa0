-- The query for another copy of a message.
use Rattle.std.proofs.Common.{◌≡◌, ◌==◌, ◌||◌, ℕ, zero, suc, ℤ, pos, Bool, true, false, not, cond, List, [], ◌∷◌, map, filter, take, length, refl, sym, ap, ap₂, ◌∙◌, subst, IsPermutation}
use Rattle.std.specs.List.{list_all, list_any}
use Rattle.std.proofs.lemmas.Bool.{and_from, and_parts}
use Rattle.std.proofs.lemmas.List.{length-map}
use Rattle.std.proofs.lemmas.List.Sorted.{length_permutation}
use Rattle.sqlite_value.specs.declared.value.Value.TheVariants.{Int, Blob}
use Rattle.sqlite_value.specs.declared.keys.Collation.TheVariants.{Binary}
use Rattle.sqlite_value.specs.Order.{Row, column}
use Rattle.sqlite_sql.specs.Term.{col, holds, lit}
use Rattle.sqlite_sql.specs.Query.{Output}
use Rattle.sqlite_sql.specs.declared.ops.CompareOp.TheVariants.{Eq, Ne}
use Rattle.sqlite_schema.specs.Rules.{equal}
use Rattle.sqlite_keyed.proofs.ListLemmas.{filter-map, filter_same, filter-filter, IsPermutation-filter}
use Rattle.sqlite_typed.proofs.TestLemmas.{at_ints, last_term, then_term}
use Rattle.sqlite.specs.State.{State, Shown}
use Rattle.store_tables.specs.Rows.{Tables, HoldsTables, has_key}
use Rattle.store_tables.proofs.AnswerLemmas.{nth_in_order}
use Rattle.store_tables.proofs.ReadLemmas.{answered_nth}
use Rattle.store_tables.proofs.ListLemmas.{equal_itself, owner_key}
use Rattle.store_tables.specs.Schema.{mail_schema}
use Rattle.store_tables.specs.CopyTable.{copy, copy_tree, select_other}
use Rattle.store_tables.proofs.SchemaFacts.{copy_listed}
use Rattle.store_tables.proofs.TextFacts.{by_other, select_other_is, select_other_plain}
use Rattle.store_accounts.specs.declared.filing.Filing.{Filing}
use Rattle.store_accounts.specs.CopyRows.{Copy, copy_row, is_other_copy}
use Rattle.store_accounts.specs.Shows.{rows_of, AreOtherRows, IsShared}
use Rattle.store_accounts.proofs.AccountLemmas.{same_numbers}

-- what the query is asked with
abbrev pub other_params : List ℕ → ℤ → ℤ → Row
other_params owner id n = Blob owner ∷ Int id ∷ Int n ∷ []

-- a row passes where it is of the owner and of the message, and has another number
abbrev passes : List ℕ → ℤ → ℤ → Row → Bool
passes owner id n cells = list_all (holds (other_params owner id n ∷ (Int (pos 0) ∷ cells) ∷ [])) by_other

passes_owned : (owner : List ℕ) (id n : ℤ) (cells : Row) → passes owner id n cells ≡ true → has_key (owner_key owner) cells ≡ true
passes_owned owner id n cells h = and_from (equal Binary (column cells 0) (Blob owner)) true (and_parts (equal Binary (column cells 0) (Blob owner)) _ h).0 refl

passes_is : (owner : List ℕ) (f : Filing) (c : Copy) → passes owner (pos f.id) (pos f.n) (copy_row owner c) ≡ is_other_copy f c
passes_is owner f c =
    rw (equal_itself owner) (then_term (at_ints false Eq (pos c.id) (pos f.id) ∙ same_numbers c.id f.id) (last_term (at_ints false Ne (pos c.n) (pos f.n) ∙ ap not (same_numbers c.n f.n))))

-- ---- how many rows there are

capped : ℕ → ℕ
capped zero = 0
capped (suc n) = 1

first_only : {X : Type 0} (xs : List X) → length (take 1 xs) ≡ capped (length xs)
unfolding capped
first_only [] = refl
first_only (x ∷ xs) = refl

any_capped : {X : Type 0} (p : X → Bool) (xs : List X) → capped (length (filter p xs)) ≡ cond (list_any p xs) 1 0
unfolding capped
any_capped p [] = refl
any_capped p (x ∷ xs) = elim (p x) as (λ b. capped (length (cond b (x ∷ filter p xs) (filter p xs))) ≡ cond (b || list_any p xs) 1 0) [ true ↦ refl | false ↦ any_capped p xs ]

module _ (old new : State) (rows : List Row) (tables : Tables) (h : HoldsTables mail_schema old.now tables) (owner : List ℕ) (id n : ℤ) where
  pub other_read : Shown select_other (other_params owner id n) old new rows → AreOtherRows owner id n rows (rows_of owner tables)
  other_read shown a s f same_id same_n =
      let copies = s.copies.entries in
      let p = passes owner id n in
      let show = λ (cells : Row). let o : Output = ([], column cells 2 ∷ []) in o in
      let found = nth_in_order old.now.trees copy_tree by_other (col 1 3 ∷ []) [] (other_params owner id n) (tables copy_tree) (h.each copy copy_listed) p (λ m cells. refl) (lit (Int (pos 0))) show (λ m cells. refl) rows
      (answered_nth mail_schema select_other (other_params owner id n) old new h.is select_other_plain.0 (lit (Int (pos 0))) copy_tree by_other (col 1 3 ∷ []) _ _ select_other_is select_other_plain.1 rows shown) in
      let mine : filter p (map (copy_row owner) copies) ≡ map (copy_row owner) (filter (is_other_copy f) copies) =
      filter-map p (copy_row owner) copies ∙ ap (map (copy_row owner)) (filter_same _ (is_other_copy f) (λ c. ap₂ (λ i m. passes owner i m (copy_row owner c)) same_id same_n ∙ passes_is owner f c) copies) in
      let all_mine : filter p (tables copy_tree) ≡ filter p (rows_of owner tables copy_tree) = sym (filter-filter p (has_key (owner_key owner)) (passes_owned owner id n) (tables copy_tree)) in
      let cells : IsPermutation (map (copy_row owner) (filter (is_other_copy f) copies)) (filter p (tables copy_tree)) =
      subst (λ l. IsPermutation l (filter p (tables copy_tree))) mine (subst (IsPermutation _) (sym all_mine) (IsPermutation-filter p _ _ s.copies.numbered.rows_are)) in
      let many : length found.0 ≡ length (filter (is_other_copy f) copies) =
      length_permutation _ _ found.1 ∙ length-map _ show ∙ length_permutation _ _ cells ∙ length-map _ (copy_row owner) in
      ap length found.3 ∙ first_only (map (λ (o : Output). o.1) found.0) ∙ ap capped (length-map found.0 (λ (o : Output). o.1) ∙ many) ∙ any_capped (is_other_copy f) copies

-- and whether there is one
pub shared_is : (user : List ℕ) (f : Filing) (id n : ℤ) (rows : List Row) (own : Tables) → id ≡ pos f.id → n ≡ pos f.n → (empty : Bool) → empty ≡ (length rows == 0) → AreOtherRows user id n rows own → IsShared user f (not empty) own
shared_is user f id n rows own same_id same_n empty tells are a s = ap not (tells ∙ ap (λ m. m == 0) (are a s f same_id same_n)) ∙ go (list_any (is_other_copy f) s.copies.entries)
  where
    go : (any : Bool) → not (cond any 1 0 == 0) ≡ any
    go true = refl
    go false = refl
