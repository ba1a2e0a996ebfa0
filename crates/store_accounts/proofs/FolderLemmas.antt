-- The names of a user's copies in order, and the folders that they make.
use Rattle.std.proofs.Common.{◌≡◌, ℕ, suc, ◌<◌, false, List, [], ◌∷◌, map, filter, length, get_or, Option, Some, None, IfSome, refl, sym, ap, ap₂, ◌∙◌, subst, arith, true≢false, is_gt, is_lt, Ordering, Less, Equal, Greater, IsPermutation, IsSorted}
use Rattle.std.specs.List.{AllByRecursion}
use Rattle.std.specs.FinMap.{get, entries}
use Rattle.std.specs.Ordering.{ordering_reverse}
use Rattle.std.proofs.lemmas.Cmp.{nat_list_cmp_total}
use Rattle.std.proofs.lemmas.List.Elements.{recursion_from_All, All-from_recursion}
use Rattle.std.proofs.lemmas.List.Sorted.{sorted_far, ranks_by, All-permutation, IsPermutation-map, IsPermutation-trans}
use Rattle.sqlite_value.specs.declared.value.Value.TheVariants.{Blob}
use Rattle.sqlite_value.specs.declared.keys.Collation.TheVariants.{Binary}
use Rattle.sqlite_value.specs.Keys.{ascending}
use Rattle.sqlite_value.specs.Order.{Row, column, bytes}
use Rattle.sqlite_value.proofs.OrderLemmas.{value_cmp-Blob}
use Rattle.sqlite_trees.specs.Tree.{IsAscending}
use Rattle.sqlite_sql.specs.Term.{col}
use Rattle.sqlite_sql.specs.Query.{Query, Output, output_cmp}
use Rattle.sqlite_sql.proofs.QueryLemmas.{output_cmp_total}
use Rattle.sqlite_keyed.proofs.ListLemmas.{map-map, map_back, ascending_from_map, ascending_weaker, all-map}
use Rattle.sqlite_typed.proofs.TestLemmas.{last_key}
use Rattle.sqlite.specs.State.{State, Shown}
use Rattle.store_tables.specs.Forms.{over_table}
use Rattle.store_tables.specs.Rows.{has_key}
use Rattle.store_tables.proofs.AnswerLemmas.{cells_in_order}
use Rattle.store_tables.proofs.ReadLemmas.{answered}
use Rattle.store_tables.proofs.ListLemmas.{owner_key}
use Rattle.store_tables.specs.Schema.{mail_schema}
use Rattle.store_accounts.specs.Account.{bytes_cmp, Account, Accounts}
use Rattle.store_tables.specs.CopyTable.{copy, select_folders, copy_tree}
use Rattle.store_accounts.specs.CopyRows.{Copy, copy_row}
use Rattle.store_accounts.specs.Shows.{rows_of, IsShown, IsShownOrAbsent, Presents}
use Rattle.store_accounts.specs.Tally.{tallied, folder_count, folder_size, AreFolderRows}
use Rattle.store_tables.proofs.TextFacts.{by_one, select_folders_is, select_folders_plain}
use Rattle.store_accounts.proofs.TallyLemmas.{InOrder, tally_is}
use Rattle.store_tables.proofs.SchemaFacts.{copy_listed}

each_at : {X : Type 0} (P : X → Type 0) (ys : List X) → ((j : ℕ) (d : X) → j < length ys → P (get_or ys j d)) → AllByRecursion P ys
each_at P [] h = tt
each_at P (y ∷ ys) h = (h 0 y (omega arith), each_at P ys (λ j d low. h (suc j) d (omega arith)))

ascending_at : {X : Type 0} (R : X → X → Type 0) (xs : List X) → ((i j : ℕ) (d : X) → i < j → j < length xs → R (get_or xs i d) (get_or xs j d)) → IsAscending R xs
ascending_at R [] h = tt
ascending_at R (x ∷ xs) h = (each_at (R x) xs (λ j d low. h 0 (suc j) d (omega arith) (omega arith)), ascending_at R xs (λ i j d p q. h (suc i) (suc j) d (omega arith) (omega arith)))

abbrev by_folder : Query
by_folder = (over_table copy_tree by_one (col 1 2 ∷ []) ((col 1 2, ascending Binary) ∷ [])).body

abbrev folder_output : List ℕ → Output
folder_output n = (Blob n ∷ [], Blob n ∷ [])

abbrev folder_in : Output → List ℕ
folder_in o = bytes (column o.0 0)

not_above : (o : Ordering) → is_lt o ≡ false → is_gt (ordering_reverse o) ≡ false
not_above Less h = absurd (true≢false h)
not_above Equal h = refl
not_above Greater h = refl

names_in_order : (ordered : List Output) (names : List (List ℕ)) → ordered ≡ map folder_output names → IsSorted (output_cmp by_folder) ordered → InOrder names
names_in_order ordered names are sorted =
    let far = ascending_at (λ x y. is_lt (output_cmp by_folder y x) ≡ false) ordered (λ i j d p q. sorted_far (λ x y. is_lt (output_cmp by_folder x y)) (ranks_by (output_cmp_total by_folder) (λ x. x)) ordered sorted i j d (omega arith) q) in
    ascending_weaker _ (λ a b. is_gt (bytes_cmp a b) ≡ false) (λ a b h.
    ap is_gt (nat_list_cmp_total.antisymm a b) ∙ not_above (bytes_cmp b a) (sym (ap is_lt (last_key (value_cmp-Blob b a))) ∙ h)) names
    (ascending_from_map (λ x y. is_lt (output_cmp by_folder y x) ≡ false) folder_output names (subst (IsAscending (λ x y. is_lt (output_cmp by_folder y x) ≡ false)) are far))

-- what stands in the image of a function is that function of something
shown_again : (outs : List Output) → AllByRecursion (λ o. o ≡ folder_output (folder_in o)) outs → outs ≡ map folder_output (map folder_in outs)
shown_again [] h = refl
shown_again (o ∷ outs) h = ap₂ ◌∷◌ h.0 (shown_again outs h.1)

module _ (old new : State) (rows : List Row) (accounts : Accounts) (p : Presents old.now accounts) (user : List ℕ) where
  pub folders_read : Shown select_folders (owner_key user) old new rows → IfSome (get accounts user) (AreFolderRows rows)
  folders_read shown = go (get accounts user) (p.2.users user)
    where
      at : (a : Account) → IsShown user (rows_of user p.0) a → AreFolderRows rows a
      at a s =
          let mine = has_key (owner_key user) in
          let listed = map (λ (c : Copy). c.folder) s.copies.entries in
          let show = λ (cells : Row). let o : Output = (column cells 1 ∷ [], column cells 1 ∷ []) in o in
          let found = cells_in_order old.now.trees copy_tree by_one (col 1 2 ∷ []) ((col 1 2, ascending Binary) ∷ []) (owner_key user) (p.0 copy_tree) (p.1.each copy copy_listed) mine (λ n cells. refl) show (λ n cells. refl) rows
          (answered mail_schema select_folders (owner_key user) old new p.1.is select_folders_plain.0 copy_tree by_one (col 1 2 ∷ []) _ _ select_folders_is select_folders_plain.1 rows shown) in
          let again : map show (map (copy_row user) s.copies.entries) ≡ map folder_output listed = map-map show (copy_row user) s.copies.entries ∙ sym (map-map folder_output (λ (c : Copy). c.folder) s.copies.entries) in
          let outs : IsPermutation (map folder_output listed) (map show (filter mine (p.0 copy_tree))) =
          subst (λ l. IsPermutation l (map show (filter mine (p.0 copy_tree)))) again (IsPermutation-map show _ _ s.copies.numbered.rows_are) in
          let same = IsPermutation-trans _ _ _ outs found.1 in
          let image = All-permutation (λ o. o ≡ folder_output (folder_in o)) (map folder_output listed) found.0 same (All-from_recursion (λ o. o ≡ folder_output (folder_in o)) (map folder_output listed) (all-map _ folder_output (λ n. refl) listed)) in
          let names = map folder_in found.0 in
          let image_again = shown_again found.0 (recursion_from_All (λ o. o ≡ folder_output (folder_in o)) found.0 image) in
          let permuted = subst (λ l. IsPermutation l names) (map_back folder_output folder_in (λ n. refl) listed) (IsPermutation-map folder_in _ _ same) in (
            names,
            found.3 ∙ ap (map (λ (o : Output). o.1)) image_again ∙ map-map (λ (o : Output). o.1) folder_output names,
            subst (λ m. map folder_count (tallied names) ≡ map folder_size (entries m)) (sym s.copies.shown) (tally_is s.copies.entries names permuted (names_in_order found.0 names image_again found.2)),
          )

      go : (o : Option Account) → IsShownOrAbsent user (rows_of user p.0) o → IfSome o (AreFolderRows rows)
      go None h = tt
      go (Some a) h = at a h
