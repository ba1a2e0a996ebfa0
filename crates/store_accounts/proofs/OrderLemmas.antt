-- What the queries that are in order find.
use Rattle.std.proofs.Common.{◌≡◌, ◌==◌, ◌&&◌, ap₂, ℕ, pos, ◌<◌, Bool, true, false, cond, List, [], ◌∷◌, ◌++◌, map, filter, fold, append-nil, append_assoc, Some, unwrap_or, refl, sym, ap, ◌∙◌, subst, arith, true≢false, is_eq, Less, IsPermutation}
use Rattle.std.specs.List.{AllByRecursion}
use Rattle.std.specs.FinMap.{FinMap, empty, get, entries, keys, from_entries, get-insert, get-empty}
use Rattle.std.proofs.lemmas.Int.{ints}
use Rattle.std.proofs.lemmas.Cmp.{nat_list_cmp_total}
use Rattle.std.proofs.lemmas.List.Sorted.{All-permutation, IsPermutation-map, IsPermutation-trans, IsPermutation-sym}
use Rattle.sqlite_value.specs.declared.value.Value.TheVariants.{Int, Blob}
use Rattle.sqlite_value.specs.declared.keys.Collation.TheVariants.{Binary}
use Rattle.sqlite_value.specs.Keys.{ascending}
use Rattle.sqlite_value.specs.Order.{Row, column}
use Rattle.sqlite_value.proofs.OrderLemmas.{value_cmp-Int, value_cmp-Blob}
use Rattle.sqlite_trees.specs.Tree.{IsAscending}
use Rattle.sqlite_sql.specs.Term.{col}
use Rattle.sqlite_sql.specs.Query.{Query, inner, end, Output, output_cmp}
use Rattle.sqlite_sql.proofs.QueryLemmas.{output_cmp_total}
use Rattle.sqlite_keyed.proofs.ListLemmas.{map-map, all_weaker, all-filter, filter-map, filter_same, filter-filter, ascending-map, ascending-filter, ascending_weaker, IsPermutation-filter}
use Rattle.sqlite_keyed.proofs.KeyedLemmas.{Less-from_lt}
use Rattle.sqlite_keyed.proofs.SortLemmas.{sorted_unique}
use Rattle.sqlite_typed.proofs.TestLemmas.{last_key, same_bytes, bytes_eq_refl}
use Rattle.sqlite.specs.State.{State, Shown}
use Rattle.store_tables.specs.Forms.{over_table, over_two}
use Rattle.store_tables.specs.Rows.{Tables, HoldsTables, has_key}
use Rattle.store_tables.proofs.AnswerLemmas.{cells_in_order, cells_joined}
use Rattle.store_tables.proofs.ReadLemmas.{answered, answered_from}
use Rattle.store_tables.proofs.ListLemmas.{owner_key, pair_key, pair_owned}
use Rattle.store_accounts.specs.declared.queue.QueuedMessage.{QueuedMessage}
use Rattle.store_accounts.specs.declared.notice.Notice.{Notice}
use Rattle.store_tables.specs.QueueTable.{outgoing, outgoing_tree, select_queue}
use Rattle.store_accounts.specs.QueueRows.{outgoing_cells, queue_row}
use Rattle.store_tables.specs.NoticeTable.{notice, notice_tree, select_notices}
use Rattle.store_accounts.specs.NoticeRows.{notice_cells, notice_row}
use Rattle.store_tables.specs.Schema.{mail_schema}
use Rattle.store_accounts.specs.Account.{bytes_cmp, Folders, messages_in, filed}
use Rattle.store_tables.specs.ScriptTable.{script, select_names, scripts_tree}
use Rattle.store_accounts.specs.ScriptRows.{script_row, AreKeysApart}
use Rattle.store_tables.specs.MessageTable.{message, message_key, message_tree, bytes_column}
use Rattle.store_accounts.specs.MessageRows.{Message, message_row}
use Rattle.store_tables.specs.CopyTable.{copy, select_folder, copy_tree, id_column, n_column}
use Rattle.store_accounts.specs.CopyRows.{Copy, copy_row, filed_from, folders_from, flags_from, message_of, is_in}
use Rattle.store_accounts.specs.Shows.{rows_of}
use Rattle.store_tables.proofs.TextFacts.{by_one, of_message, select_names_is, select_names_plain, select_folder_is, select_folder_plain, notices_shown, queue_shown, select_notices_is, select_notices_plain, select_queue_is, select_queue_plain}
use Rattle.store_accounts.proofs.AccountLemmas.{pair_is, message_is, bytes_antisymmetric}
use Rattle.store_accounts.proofs.NumberLemmas.{alone_at}
use Rattle.store_accounts.proofs.KeyLemmas.{key_owned}
use Rattle.sqlite.proofs.Callers.{one_permutation}
use Rattle.sqlite_rules.specs.Lists.{Has}
use Rattle.sqlite_rules.proofs.ListLemmas.{all_has, has_kept}
use Rattle.sqlite_schema.specs.Rules.{equal}
use Rattle.std.proofs.lemmas.List.Elements.{recursion_from_All, All-from_recursion}
use Rattle.store_accounts.proofs.MapLemmas.{entries_permutation, entries_rise}
use Rattle.store_tables.proofs.SchemaFacts.{copy_listed, message_listed, script_listed, notice_listed, outgoing_listed}

-- the rows with a key of two are among the owner's
pub of_owner : (owner name : List ℕ) (tables : Tables) (tree : ℕ) → filter (has_key (pair_key owner name)) (tables tree) ≡ filter (has_key (pair_key owner name)) (rows_of owner tables tree)
of_owner owner name tables tree = sym (filter-filter (has_key (pair_key owner name)) (has_key (owner_key owner)) (pair_owned owner name) (tables tree))

number_output : Copy → Output
number_output c = (Int (pos c.n) ∷ [], Blob c.message ∷ [])

pub all_mapped : {X Y : Type 0} (P : Y → Type 0) (f : X → Y) (xs : List X) → AllByRecursion (λ x. P (f x)) xs → AllByRecursion P (map f xs)
all_mapped P f [] h = tt
all_mapped P f (x ∷ xs) h = (h.0, all_mapped P f xs h.1)

-- the row of a message is that of a copy's row where it has the copy's owner and its message's number
abbrev pub is_of : Row → Row → Bool
is_of copied = has_key (column copied 0 ∷ column copied id_column ∷ [])

abbrev first_of : List Row → Row
first_of [] = []
first_of (row ∷ rows) = row

abbrev partner : List Row → Row → Row
partner others copied = first_of (filter (is_of copied) others)

abbrev shown_pair : Row → Row → Output
shown_pair copied other = (column copied n_column ∷ [], column other bytes_column ∷ [])

module _ (tables : Tables) (owner : List ℕ) (messages : List Message) (are : IsPermutation (map (message_row owner) messages) (rows_of owner tables message_tree)) (rise : IsAscending (λ x y. x.id < y.id) messages) where
  message_found : (c : Copy) → Has messages (message_of c) → filter (is_of (copy_row owner c)) (tables message_tree) ≡ message_row owner (message_of c) ∷ []
  message_found c there =
      let key = has_key (message_key owner (pos c.id)) in
      let mine = sym (filter-filter key (has_key (owner_key owner)) (key_owned owner (Int (pos c.id) ∷ [])) (tables message_tree)) in
      let one : filter key (map (message_row owner) messages) ≡ message_row owner (message_of c) ∷ [] =
      filter-map key (message_row owner) messages ∙ ap (map (message_row owner)) (filter_same _ (λ m. m.id == c.id) (λ m. message_is owner c.id m) messages ∙ alone_at (λ m. m.id) (message_row owner) messages rise (message_of c) there) in
      mine ∙ one_permutation (message_row owner (message_of c)) _ (subst (λ l. IsPermutation l (filter key (rows_of owner tables message_tree))) one (IsPermutation-filter key _ _ are))

  abbrev IsPaired : Row → Type 0
  IsPaired row = filter (is_of row) (tables message_tree) ≡ partner (tables message_tree) row ∷ []

  copy_paired : (c : Copy) → Has messages (message_of c) → IsPaired (copy_row owner c)
  copy_paired c there = let found = message_found c there in found ∙ ap (λ r. r ∷ []) (sym (ap first_of found))

  -- each copy of the owner has one message
  rows_paired : (copies : List Copy) → IsPermutation (map (copy_row owner) copies) (rows_of owner tables copy_tree) → AllByRecursion (λ c. Has messages (message_of c)) copies
      → (row : Row) → Has (tables copy_tree) row → has_key (owner_key owner) row ≡ true → IsPaired row
  rows_paired copies same present row there mine =
      let each = all_mapped IsPaired (copy_row owner) copies (all_weaker (λ c. Has messages (message_of c)) (λ c. IsPaired (copy_row owner c)) copy_paired copies present) in
      let all = recursion_from_All IsPaired _ (All-permutation IsPaired _ _ same (All-from_recursion IsPaired _ each)) in
      all_has IsPaired (rows_of owner tables copy_tree) row all (has_kept (has_key (owner_key owner)) (tables copy_tree) row there mine)

  pairs_shown : (copies : List Copy) → AllByRecursion (λ c. Has messages (message_of c)) copies → map (λ row. shown_pair row (partner (tables message_tree) row)) (map (copy_row owner) copies) ≡ map number_output copies
  unfolding number_output
  pairs_shown [] present = refl
  pairs_shown (c ∷ copies) present = ap₂ ◌∷◌ (ap (λ r. shown_pair (copy_row owner c) (first_of r)) (message_found c present.0)) (pairs_shown copies present.1)

abbrev by_number : Query
by_number = (over_two copy_tree message_tree of_message (col 2 3 ∷ []) ((col 1 3, ascending Binary) ∷ [])).body

numbers_rise : (c d : Copy) → c.n < d.n → output_cmp by_number (number_output c) (number_output d) ≡ Less
unfolding number_output
numbers_rise c d low = last_key (value_cmp-Int (pos c.n) (pos d.n) ∙ Less-from_lt (pos c.n) (pos d.n) (omega (arith, ints)))

-- the terms of the copy's table apart from those of both
turned : (a b p : Bool) → (a && (b && p)) ≡ (p && (a && (b && true)))
turned true true true = refl
turned true true false = refl
turned true false true = refl
turned true false false = refl
turned false b true = refl
turned false b false = refl

module _ (old new : State) (rows : List Row) (tables : Tables) (h : HoldsTables mail_schema old.now tables) where
  pub folder_found : (owner folder : List ℕ) (copies : List Copy) (messages : List Message) → IsPermutation (map (copy_row owner) copies) (rows_of owner tables copy_tree) → IsAscending (λ c d. c.n < d.n) copies
      → IsPermutation (map (message_row owner) messages) (rows_of owner tables message_tree) → IsAscending (λ x y. x.id < y.id) messages → AllByRecursion (λ c. Has messages (message_of c)) copies
      → Shown select_folder (pair_key owner folder) old new rows → rows ≡ map (λ c. Blob c.message ∷ []) (filter (is_in folder) copies)
  unfolding number_output
  folder_found owner folder copies messages are rise kept up present shown =
      let key = pair_key owner folder in
      let p = has_key key in
      let few = filter (is_in folder) copies in
      let other = partner (tables message_tree) in
      let show = λ (row : Row). shown_pair row (other row) in
      let found = cells_joined old.now.trees copy_tree message_tree of_message (col 2 3 ∷ []) ((col 1 3, ascending Binary) ∷ []) key (tables copy_tree) (tables message_tree) (h.each copy copy_listed) (h.each message message_listed) p is_of
      (λ n m a b. turned (equal Binary (column b 0) (column a 0)) (equal Binary (column b 1) (column a 3)) (p a)) shown_pair (λ n m a b. refl) other
      (λ row there passes. rows_paired tables owner messages kept up copies are present row there (pair_owned owner folder row passes)) rows
      (answered_from mail_schema select_folder key old new h.is select_folder_plain.0 (inner copy_tree (inner message_tree end)) of_message (col 2 3 ∷ []) _ _ select_folder_is select_folder_plain.1 rows shown) in
      let mine : filter p (map (copy_row owner) copies) ≡ map (copy_row owner) few =
      filter-map p (copy_row owner) copies ∙ ap (map (copy_row owner)) (filter_same _ (is_in folder) (λ c. pair_is owner folder c.folder (Int (pos c.n) ∷ Int (pos c.id) ∷ Blob c.flags ∷ [])) copies) in
      let cells : IsPermutation (map (copy_row owner) few) (filter p (tables copy_tree)) =
      subst (λ l. IsPermutation l (filter p (tables copy_tree))) mine (subst (IsPermutation _) (sym (of_owner owner folder tables copy_tree)) (IsPermutation-filter p _ _ are)) in
      let outs : IsPermutation (map number_output few) (map show (filter p (tables copy_tree))) =
      subst (λ l. IsPermutation l (map show (filter p (tables copy_tree)))) (pairs_shown tables owner messages kept up few (all-filter _ (is_in folder) copies present)) (IsPermutation-map show _ _ cells) in
      let rising = ascending-map (λ x y. output_cmp by_number x y ≡ Less) number_output few
      (ascending-filter (λ c d. output_cmp by_number (number_output c) (number_output d) ≡ Less) (is_in folder) copies (ascending_weaker _ (λ c d. output_cmp by_number (number_output c) (number_output d) ≡ Less) numbers_rise copies rise)) in
      let is = sorted_unique (output_cmp by_number) (output_cmp_total by_number) (map number_output few) found.0 rising (IsPermutation-trans _ _ _ outs found.1) found.2 in
      found.3 ∙ ap (map (λ (o : Output). o.1)) is ∙ map-map (λ (o : Output). o.1) number_output few

-- the same of the queue, and of the notices
abbrev by_id : Query
by_id = (over_table outgoing_tree by_one queue_shown ((col 1 2, ascending Binary) ∷ [])).body

queued_output : QueuedMessage → Output
queued_output out = (Int (pos out.id) ∷ [], outgoing_cells out)

queued_rise : (x y : QueuedMessage) → x.id < y.id → output_cmp by_id (queued_output x) (queued_output y) ≡ Less
unfolding queued_output
queued_rise x y low = last_key (value_cmp-Int (pos x.id) (pos y.id) ∙ Less-from_lt (pos x.id) (pos y.id) (omega (arith, ints)))

abbrev by_notice : Query
by_notice = (over_table notice_tree by_one notices_shown ((col 1 2, ascending Binary) ∷ [])).body

noticed_output : ℕ × Notice → Output
noticed_output e = (Int (pos e.0) ∷ [], notice_cells e.1)

noticed_rise : (x y : ℕ × Notice) → x.0 < y.0 → output_cmp by_notice (noticed_output x) (noticed_output y) ≡ Less
unfolding noticed_output
noticed_rise x y low = last_key (value_cmp-Int (pos x.0) (pos y.0) ∙ Less-from_lt (pos x.0) (pos y.0) (omega (arith, ints)))

module _ (old new : State) (rows : List Row) (tables : Tables) (h : HoldsTables mail_schema old.now tables) where
  pub queue_found : (owner : List ℕ) (queue : List QueuedMessage) → IsPermutation (map (queue_row owner) queue) (rows_of owner tables outgoing_tree) → IsAscending (λ x y. x.id < y.id) queue
      → Shown select_queue (owner_key owner) old new rows → rows ≡ map outgoing_cells queue
  unfolding queued_output
  queue_found owner queue are rise shown =
      let p = has_key (owner_key owner) in
      let show = λ (cells : Row). let o : Output = (column cells 1 ∷ [], column cells 1 ∷ column cells 2 ∷ column cells 3 ∷ column cells 4 ∷ column cells 5 ∷ []) in o in
      let found = cells_in_order old.now.trees outgoing_tree by_one queue_shown ((col 1 2, ascending Binary) ∷ []) (owner_key owner) (tables outgoing_tree) (h.each outgoing outgoing_listed) p (λ n cells. refl) show (λ n cells. refl) rows
      (answered mail_schema select_queue (owner_key owner) old new h.is select_queue_plain.0 outgoing_tree by_one queue_shown _ _ select_queue_is select_queue_plain.1 rows shown) in
      let outs : IsPermutation (map queued_output queue) (map show (filter p (tables outgoing_tree))) =
      subst (λ l. IsPermutation l (map show (filter p (tables outgoing_tree)))) (map-map show (queue_row owner) queue) (IsPermutation-map show _ _ are) in
      let rising = ascending-map (λ x y. output_cmp by_id x y ≡ Less) queued_output queue (ascending_weaker _ (λ x y. output_cmp by_id (queued_output x) (queued_output y) ≡ Less) queued_rise queue rise) in
      let is = sorted_unique (output_cmp by_id) (output_cmp_total by_id) (map queued_output queue) found.0 rising (IsPermutation-trans _ _ _ outs found.1) found.2 in
      found.3 ∙ ap (map (λ (o : Output). o.1)) is ∙ map-map (λ (o : Output). o.1) queued_output queue

  pub notices_found : (owner : List ℕ) (entries : List (ℕ × Notice)) → IsPermutation (map (notice_row owner) entries) (rows_of owner tables notice_tree) → IsAscending (λ x y. x.0 < y.0) entries
      → Shown select_notices (owner_key owner) old new rows → rows ≡ map notice_cells (map (λ e. e.1) entries)
  unfolding noticed_output
  notices_found owner entries are rise shown =
      let p = has_key (owner_key owner) in
      let show = λ (cells : Row). let o : Output = (column cells 1 ∷ [], column cells 2 ∷ column cells 3 ∷ []) in o in
      let found = cells_in_order old.now.trees notice_tree by_one notices_shown ((col 1 2, ascending Binary) ∷ []) (owner_key owner) (tables notice_tree) (h.each notice notice_listed) p (λ n cells. refl) show (λ n cells. refl) rows
      (answered mail_schema select_notices (owner_key owner) old new h.is select_notices_plain.0 notice_tree by_one notices_shown _ _ select_notices_is select_notices_plain.1 rows shown) in
      let outs : IsPermutation (map noticed_output entries) (map show (filter p (tables notice_tree))) =
      subst (λ l. IsPermutation l (map show (filter p (tables notice_tree)))) (map-map show (notice_row owner) entries) (IsPermutation-map show _ _ are) in
      let rising = ascending-map (λ x y. output_cmp by_notice x y ≡ Less) noticed_output entries (ascending_weaker _ (λ x y. output_cmp by_notice (noticed_output x) (noticed_output y) ≡ Less) noticed_rise entries rise) in
      let is = sorted_unique (output_cmp by_notice) (output_cmp_total by_notice) (map noticed_output entries) found.0 rising (IsPermutation-trans _ _ _ outs found.1) found.2 in
      found.3 ∙ ap (map (λ (o : Output). o.1)) is ∙ map-map (λ (o : Output). o.1) noticed_output entries ∙ sym (map-map notice_cells (λ (e : ℕ × Notice). e.1) entries)

-- what a folder has is what its copies have, in turn
folder_joined : (what : Copy → List ℕ) (q : List ℕ) (m : Folders) (c : Copy) → messages_in (filed m c.folder (what c)) q ≡ messages_in m q ++ cond (is_in q c) (what c ∷ []) []
folder_joined what q m c = ap (λ o. unwrap_or o []) (get-insert nat_list_cmp_total m c.folder (messages_in m c.folder ++ what c ∷ []) q) ∙ go (is_eq (bytes_cmp q c.folder)) (is_in q c) refl refl
  where
    go : (a b : Bool) → is_eq (bytes_cmp q c.folder) ≡ a → is_in q c ≡ b → unwrap_or (cond a (Some (messages_in m c.folder ++ what c ∷ [])) (get m q)) [] ≡ messages_in m q ++ cond b (what c ∷ []) []
    go true true s t = ap (λ k. messages_in m k ++ what c ∷ []) (sym (same_bytes q c.folder s))
    go true false s t = absurd (true≢false (sym (ap (λ k. is_eq (bytes_cmp c.folder k)) (same_bytes q c.folder s) ∙ bytes_eq_refl c.folder) ∙ t))
    go false true s t = absurd (true≢false (sym (ap (λ k. is_eq (bytes_cmp q k)) (same_bytes c.folder q t) ∙ bytes_eq_refl q) ∙ s))
    go false false s t = sym (append-nil (messages_in m q))

folders_joined : (what : Copy → List ℕ) (q : List ℕ) (copies : List Copy) (m : Folders) → messages_in (fold (λ there c. filed there c.folder (what c)) m copies) q ≡ messages_in m q ++ map what (filter (is_in q) copies)
folders_joined what q [] m = sym (append-nil (messages_in m q))
folders_joined what q (c ∷ copies) m =
    folders_joined what q copies (filed m c.folder (what c)) ∙ ap (λ l. l ++ map what (filter (is_in q) copies)) (folder_joined what q m c)
    ∙ elim (is_in q c) as (λ b. (messages_in m q ++ cond b (what c ∷ []) []) ++ map what (filter (is_in q) copies) ≡ messages_in m q ++ map what (cond b (c ∷ filter (is_in q) copies) (filter (is_in q) copies))) [
      | true ↦ append_assoc (messages_in m q) (what c ∷ []) (map what (filter (is_in q) copies))
      | false ↦ ap (λ l. l ++ map what (filter (is_in q) copies)) (append-nil (messages_in m q))
    ]

pub filed_are : (what : Copy → List ℕ) (copies : List Copy) (folder : List ℕ) → messages_in (filed_from what copies) folder ≡ map what (filter (is_in folder) copies)
filed_are what copies folder = folders_joined what folder copies empty ∙ ap (λ o. unwrap_or o [] ++ map what (filter (is_in folder) copies)) (get-empty bytes_cmp folder)

pub messages_are : (copies : List Copy) (folder : List ℕ) → messages_in (folders_from copies) folder ≡ map (λ c. c.message) (filter (is_in folder) copies)
messages_are = filed_are (λ c. c.message)

pub flags_are : (copies : List Copy) (folder : List ℕ) → messages_in (flags_from copies) folder ≡ map (λ c. c.flags) (filter (is_in folder) copies)
flags_are = filed_are (λ c. c.flags)

-- ---- names in order

abbrev by_name : Query
by_name = (over_table scripts_tree by_one (col 1 2 ∷ []) ((col 1 2, ascending Binary) ∷ [])).body

name_output : {X : Type 0} → List ℕ × X → Output
name_output e = (Blob e.0 ∷ [], Blob e.0 ∷ [])

names_rise : {X : Type 0} (a b : List ℕ × X) → bytes_cmp a.0 b.0 ≡ Less → output_cmp by_name (name_output a) (name_output b) ≡ Less
unfolding name_output
names_rise a b low = last_key (value_cmp-Blob a.0 b.0 ∙ low)

module _ (old new : State) (rows : List Row) (tables : Tables) (h : HoldsTables mail_schema old.now tables) where
  pub names_found : (owner : List ℕ) (scripts : List (List ℕ × List ℕ)) → rows_of owner tables scripts_tree ≡ map (script_row owner) scripts → AreKeysApart scripts → Shown select_names (owner_key owner) old new rows
      → rows ≡ map (λ n. Blob n ∷ []) (keys (from_entries {R = bytes_cmp} scripts))
  unfolding name_output
  names_found owner scripts are apart shown =
      let p = has_key (owner_key owner) in
      let m : FinMap bytes_cmp (List ℕ) = from_entries scripts in
      let show = λ (cells : Row). let o : Output = (column cells 1 ∷ [], column cells 1 ∷ []) in o in
      let found = cells_in_order old.now.trees scripts_tree by_one (col 1 2 ∷ []) ((col 1 2, ascending Binary) ∷ []) (owner_key owner) (tables scripts_tree) (h.each script script_listed) p (λ n cells. refl) show (λ n cells. refl) rows
      (answered mail_schema select_names (owner_key owner) old new h.is select_names_plain.0 scripts_tree by_one (col 1 2 ∷ []) _ _ select_names_is select_names_plain.1 rows shown) in
      let outs : map show (filter p (tables scripts_tree)) ≡ map name_output scripts = ap (map show) are ∙ map-map show (script_row owner) scripts in
      let same = IsPermutation-trans _ _ _ (IsPermutation-map name_output _ _ (IsPermutation-sym _ _ (entries_permutation bytes_cmp nat_list_cmp_total bytes_antisymmetric scripts apart))) (subst (λ l. IsPermutation l found.0) outs found.1) in
      let rising = ascending-map (λ x y. output_cmp by_name x y ≡ Less) name_output (entries m) (ascending_weaker _ (λ a b. output_cmp by_name (name_output a) (name_output b) ≡ Less) names_rise (entries m) (entries_rise bytes_cmp nat_list_cmp_total bytes_antisymmetric m)) in
      let is = sorted_unique (output_cmp by_name) (output_cmp_total by_name) (map name_output (entries m)) found.0 rising same found.2 in
      found.3 ∙ ap (map (λ (o : Output). o.1)) is ∙ map-map (λ (o : Output). o.1) name_output (entries m) ∙ sym (map-map (λ (n : List ℕ). Blob n ∷ []) (λ (e : List ℕ × List ℕ). e.0) (entries m))
