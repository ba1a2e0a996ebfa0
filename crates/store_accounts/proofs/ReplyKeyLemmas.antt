-- The queries for the keys of a user's replies, and for the first of them from one handle's key on and before another's.
use Rattle.std.proofs.Common.{◌≡◌, ◌&&◌, ℕ, zero, suc, Bool, true, false, not, List, [], ◌∷◌, codes, map, filter, take, Ok, Err, Result, IfOk, IfSome, refl, sym, ap, ◌∙◌, subst, is_lt, is_le, Less, Equal, Greater, IsPermutation}
use Rattle.std.specs.Ordering.{ordering_reverse}
use Rattle.std.proofs.lemmas.Bool.{and_parts, and_from}
use Rattle.std.proofs.lemmas.Cmp.{nat_list_cmp_total}
use Rattle.std.specs.FinMap.{get, entries, keys, from_entries}
use Rattle.std.proofs.lemmas.List.Sorted.{IsPermutation-map, IsPermutation-sym, IsPermutation-trans}
use Rattle.sqlite_value.specs.declared.value.Value.{Value}
use Rattle.sqlite_value.specs.declared.value.Value.TheVariants.{Blob}
use Rattle.sqlite_value.specs.declared.keys.Collation.TheVariants.{Binary}
use Rattle.sqlite_value.specs.declared.keys.Key.{Key}
use Rattle.sqlite_value.specs.Keys.{ascending}
use Rattle.sqlite_value.specs.Order.{Row, column}
use Rattle.sqlite_value.proofs.OrderLemmas.{value_cmp-Blob}
use Rattle.sqlite_schema.specs.declared.command.Command.TheVariants.{Select}
use Rattle.sqlite_sql.specs.declared.ops.BinaryOp.TheVariants.{Compare}
use Rattle.sqlite_sql.specs.declared.ops.CompareOp.{CompareOp}
use Rattle.sqlite_sql.specs.declared.ops.CompareOp.TheVariants.{Lt, Ge}
use Rattle.sqlite_sql.specs.Ops.{binary}
use Rattle.sqlite_sql.specs.Term.{Term, col, op2}
use Rattle.sqlite_sql.specs.Query.{Query, Output, output_cmp}
use Rattle.sqlite_sql.proofs.QueryLemmas.{output_cmp_total}
use Rattle.sqlite_schema.specs.Rules.{equal}
use Rattle.sqlite_tied.specs.Compute.{everything}
use Rattle.sqlite_keyed.proofs.ListLemmas.{map-map, filter-map, filter_same, filter-filter, ascending-map, ascending-filter, ascending_weaker, IsPermutation-filter}
use Rattle.sqlite_keyed.proofs.SortLemmas.{sorted_unique}
use Rattle.sqlite_typed.proofs.TestLemmas.{at_blobs, last_key, last_term, then_key, then_term, truth_or}
use Rattle.sqlite.specs.Listing.{understood, reads_listing}
use Rattle.sqlite.specs.State.{State, Shown}
use Rattle.sqlite.proofs.Callers.{IsPlain, command_of}
use Rattle.store_tables.specs.Forms.{equals, most_over, over_table}
use Rattle.store_tables.specs.ReplyTable.{reply, reply_tree}
use Rattle.store_tables.specs.Rows.{Tables, HoldsTables, has_key}
use Rattle.store_tables.specs.Schema.{mail_schema}
use Rattle.store_tables.proofs.AnswerLemmas.{cells_in_order, most_in_order}
use Rattle.store_tables.proofs.ListLemmas.{owner_key, equal_itself}
use Rattle.store_tables.proofs.ReadLemmas.{answered, answered_most}
use Rattle.store_tables.proofs.SchemaFacts.{reply_listed}
use Rattle.store_tables.proofs.TextFacts.{by_one}
use Rattle.store_accounts.specs.declared.reply.ReplyKey.{ReplyKey}
use Rattle.store_accounts.specs.Account.{bytes_cmp, reply_cmp, Accounts, ReplyMoments}
use Rattle.store_accounts.specs.FirstCells.{first_two}
use Rattle.store_accounts.specs.Listing.{select_keys_between, select_reply_keys}
use Rattle.store_accounts.specs.ReplyRows.{reply_row, reply_key_of, key_cells, is_key_between, first_between, AreBetweenRows, AreKeyRows}
use Rattle.store_accounts.specs.ScriptRows.{AreKeysApart}
use Rattle.store_accounts.specs.Shows.{rows_of, Presents}
use Rattle.store_accounts.proofs.AccountLemmas.{reply_total, reply_antisymmetric}
use Rattle.store_accounts.proofs.MapLemmas.{entries_permutation, entries_rise}
use Rattle.store_accounts.proofs.OneLemmas.{map_one}
use Rattle.store_accounts.proofs.ReadLemmas.{at_user}

abbrev keys_shown : List Term
keys_shown = col 1 2 ∷ col 1 3 ∷ []

abbrev by_handle : List (Term × Key)
by_handle = (col 1 2, ascending Binary) ∷ (col 1 3, ascending Binary) ∷ []

select_reply_keys_is : command_of (understood mail_schema select_reply_keys) ≡ Select (over_table reply_tree by_one keys_shown by_handle) (codes "handle" ∷ codes "sender" ∷ [])
unfolding understood everything
select_reply_keys_is = refl

pub select_reply_keys_plain : IsPlain (understood mail_schema select_reply_keys) × (reads_listing mail_schema select_reply_keys ≡ false)
unfolding understood everything
select_reply_keys_plain = ((refl, refl), refl)

abbrev key_query : Query
key_query = (over_table reply_tree by_one keys_shown by_handle).body

key_output : (List ℕ × List ℕ) × ℕ → Output
key_output e = (Blob e.0.0 ∷ Blob e.0.1 ∷ [], key_cells (reply_key_of e.0))

keys_rise : (x y : (List ℕ × List ℕ) × ℕ) → reply_cmp x.0 y.0 ≡ Less → output_cmp key_query (key_output x) (key_output y) ≡ Less
unfolding key_output
keys_rise x y low = then_key (value_cmp-Blob x.0.0 y.0.0) (last_key (value_cmp-Blob x.0.1 y.0.1)) ∙ low

module _ (old new : State) (rows : List Row) (tables : Tables) (h : HoldsTables mail_schema old.now tables) where
  keys_found : (owner : List ℕ) (es : List ((List ℕ × List ℕ) × ℕ)) → rows_of owner tables reply_tree ≡ map (reply_row owner) es → AreKeysApart es → Shown select_reply_keys (owner_key owner) old new rows
      → rows ≡ map key_cells (map reply_key_of (keys (from_entries {R = reply_cmp} es)))
  unfolding key_output
  keys_found owner es are apart shown =
      let p = has_key (owner_key owner) in
      let m : ReplyMoments = from_entries es in
      let show = λ (cells : Row). let o : Output = (column cells 1 ∷ column cells 2 ∷ [], column cells 1 ∷ column cells 2 ∷ []) in o in
      let found = cells_in_order old.now.trees reply_tree by_one keys_shown by_handle (owner_key owner) (tables reply_tree) (h.each reply reply_listed) p (λ n cells. refl) show (λ n cells. refl) rows
      (answered mail_schema select_reply_keys (owner_key owner) old new h.is select_reply_keys_plain.0 reply_tree by_one keys_shown _ _ select_reply_keys_is select_reply_keys_plain.1 rows shown) in
      let outs : map show (filter p (tables reply_tree)) ≡ map key_output es = ap (map show) are ∙ map-map show (reply_row owner) es in
      let ordered = IsPermutation-sym _ _ (entries_permutation reply_cmp reply_total reply_antisymmetric es apart) in
      let same = IsPermutation-trans _ _ _ (IsPermutation-map key_output _ _ ordered) (subst (λ l. IsPermutation l found.0) outs found.1) in
      let rising = ascending-map (λ x y. output_cmp key_query x y ≡ Less) key_output (entries m)
      (ascending_weaker _ (λ x y. output_cmp key_query (key_output x) (key_output y) ≡ Less) keys_rise (entries m) (entries_rise reply_cmp reply_total reply_antisymmetric m)) in
      let is = sorted_unique (output_cmp key_query) (output_cmp_total key_query) (map key_output (entries m)) found.0 rising same found.2 in
      found.3 ∙ ap (map (λ (o : Output). o.1)) is ∙ map-map (λ (o : Output). o.1) key_output (entries m) ∙ sym (ap (map key_cells) (map-map reply_key_of (λ (e : (List ℕ × List ℕ) × ℕ). e.0) (entries m)) ∙ map-map key_cells (λ (e : (List ℕ × List ℕ) × ℕ). reply_key_of e.0) (entries m))

pub keys_read : (old new : State) (rows : List Row) (accounts : Accounts) (p : Presents old.now accounts) (user : List ℕ) → Shown select_reply_keys (owner_key user) old new rows → IfSome (get accounts user) (AreKeyRows rows)
keys_read old new rows accounts p user shown = at_user accounts user p.0 p.2 _ (λ a s.
    keys_found old new rows p.0 p.1 user s.replies.entries s.replies.rows_are s.replies.apart shown ∙ ap (λ m. map key_cells (map reply_key_of (keys m))) (sym s.replies.shown))

key_one : (x y : ReplyKey) → key_cells x ≡ key_cells y → x ≡ y
key_one x y e =
    let handle : x.handle ≡ y.handle = cc in
    let sender : x.sender ≡ y.sender = cc in
    λ i. record { handle = handle i; sender = sender i }

pub keys_are : {E : Type 0} (r : Result (List ReplyKey) E) (rows : List Row) (wanted : List ReplyKey) → rows ≡ map key_cells wanted → IfOk r (λ all. map key_cells all ≡ map first_two rows) → IfOk r (λ all. all ≡ wanted)
keys_are (Err e) rows wanted are h = tt
keys_are (Ok all) rows wanted are h = map_one key_cells key_one all wanted (h ∙ ap (map first_two) are ∙ map-map first_two key_cells wanted)

-- ---- the first of them between two

abbrev between_terms : List Term
between_terms = equals 1 0 ∷ op2 (Compare Ge Binary) (col 1 2) (col 0 1) ∷ op2 (Compare Lt Binary) (col 1 2) (col 0 2) ∷ []

select_keys_between_is : command_of (understood mail_schema select_keys_between) ≡ Select (most_over 32 reply_tree between_terms keys_shown by_handle) (codes "handle" ∷ codes "sender" ∷ [])
unfolding understood everything
select_keys_between_is = refl

pub select_keys_between_plain : IsPlain (understood mail_schema select_keys_between) × (reads_listing mail_schema select_keys_between ≡ false)
unfolding understood everything
select_keys_between_plain = ((refl, refl), refl)

-- what the query is asked with
abbrev pub between_params : List ℕ → List ℕ → List ℕ → Row
between_params owner from below = Blob owner ∷ Blob from ∷ Blob below ∷ []

-- a cell passes a test beside a blob
abbrev passes : CompareOp → Value → List ℕ → Bool
passes op v bytes = truth_or false (binary (Compare op Binary) v (Blob bytes))

-- the row's owner is this one, and its handle's key stands between these
abbrev is_within : List ℕ → List ℕ → List ℕ → Row → Bool
is_within owner from below cells = equal Binary (column cells 0) (Blob owner) && (passes Ge (column cells 1) from && (passes Lt (column cells 1) below && true))

within_owned : (owner from below : List ℕ) (cells : Row) → is_within owner from below cells ≡ true → has_key (owner_key owner) cells ≡ true
within_owned owner from below cells h = and_from _ _ (and_parts _ _ h).0 refl

-- at least, where it isn't less
turned : (a b : List ℕ) → is_le (bytes_cmp b a) ≡ not (is_lt (bytes_cmp a b))
turned a b = rw (nat_list_cmp_total.antisymm a b) (elim (bytes_cmp b a) as (λ o. is_le o ≡ not (is_lt (ordering_reverse o))) [ Less ↦ refl | Equal ↦ refl | Greater ↦ refl ])

abbrev Kept : Type 0
Kept = (List ℕ × List ℕ) × ℕ

abbrev goes_between : List ℕ → List ℕ → Kept → Bool
goes_between from below e = is_key_between from below e.0

within_is : (owner from below : List ℕ) (e : Kept) → is_within owner from below (reply_row owner e) ≡ goes_between from below e
within_is owner from below e = rw (equal_itself owner) (then_term (at_blobs false Ge e.0.0 from ∙ turned e.0.0 from) (last_term (at_blobs false Lt e.0.0 below)))

-- the first of the rows show the first of the keys
first_shown : (n : ℕ) (es : List Kept) → take n (map (λ (o : Output). o.1) (map key_output es)) ≡ map key_cells (map reply_key_of (take n (map (λ (e : Kept). e.0) es)))
unfolding key_output
first_shown zero [] = refl
first_shown zero (e ∷ es) = refl
first_shown (suc n) [] = refl
first_shown (suc n) (e ∷ es) = ap (λ l. key_cells (reply_key_of e.0) ∷ l) (first_shown n es)

abbrev between_query : Query
between_query = (most_over 32 reply_tree between_terms keys_shown by_handle).body

module _ (old new : State) (rows : List Row) (tables : Tables) (h : HoldsTables mail_schema old.now tables) where
  between_found : (owner from below : List ℕ) (es : List Kept) → rows_of owner tables reply_tree ≡ map (reply_row owner) es → AreKeysApart es → Shown select_keys_between (between_params owner from below) old new rows
      → rows ≡ map key_cells (map reply_key_of (first_between from below (from_entries {R = reply_cmp} es)))
  unfolding key_output
  between_found owner from below es are apart shown =
      let p = is_within owner from below in
      let q = goes_between from below in
      let m : ReplyMoments = from_entries es in
      let few = filter q (entries m) in
      let show = λ (cells : Row). let o : Output = (column cells 1 ∷ column cells 2 ∷ [], column cells 1 ∷ column cells 2 ∷ []) in o in
      let found = most_in_order old.now.trees reply_tree between_terms keys_shown by_handle (between_params owner from below) (tables reply_tree) (h.each reply reply_listed) p (λ n cells. refl) 32 show (λ n cells. refl) rows
      (answered_most mail_schema select_keys_between (between_params owner from below) old new h.is select_keys_between_plain.0 32 reply_tree between_terms keys_shown _ _ select_keys_between_is select_keys_between_plain.1 rows shown) in
      let mine : filter p (tables reply_tree) ≡ map (reply_row owner) (filter q es) =
      sym (filter-filter p (has_key (owner_key owner)) (within_owned owner from below) (tables reply_tree)) ∙ ap (filter p) are ∙ filter-map p (reply_row owner) es ∙ ap (map (reply_row owner)) (filter_same _ q (within_is owner from below) es) in
      let outs : map show (filter p (tables reply_tree)) ≡ map key_output (filter q es) = ap (map show) mine ∙ map-map show (reply_row owner) (filter q es) in
      let ordered = IsPermutation-filter q _ _ (IsPermutation-sym _ _ (entries_permutation reply_cmp reply_total reply_antisymmetric es apart)) in
      let same = IsPermutation-trans _ _ _ (IsPermutation-map key_output _ _ ordered) (subst (λ l. IsPermutation l found.0) outs found.1) in
      let rising = ascending-map (λ x y. output_cmp between_query x y ≡ Less) key_output few
      (ascending_weaker _ (λ x y. output_cmp between_query (key_output x) (key_output y) ≡ Less) keys_rise few (ascending-filter (λ x y. reply_cmp x.0 y.0 ≡ Less) q (entries m) (entries_rise reply_cmp reply_total reply_antisymmetric m))) in
      let is = sorted_unique (output_cmp between_query) (output_cmp_total between_query) (map key_output few) found.0 rising same found.2 in
      found.3 ∙ ap (λ (l : List Output). take 32 (map (λ (o : Output). o.1) l)) is ∙ first_shown 32 few
      ∙ ap (λ l. map key_cells (map reply_key_of (take 32 l))) (sym (filter-map (is_key_between from below) (λ (e : Kept). e.0) (entries m)))

pub between_read : (old new : State) (rows : List Row) (accounts : Accounts) (p : Presents old.now accounts) (user from below : List ℕ) → Shown select_keys_between (between_params user from below) old new rows
    → IfSome (get accounts user) (AreBetweenRows from below rows)
between_read old new rows accounts p user from below shown = at_user accounts user p.0 p.2 _ (λ a s.
    between_found old new rows p.0 p.1 user from below s.replies.entries s.replies.rows_are s.replies.apart shown ∙ ap (λ m. map key_cells (map reply_key_of (first_between from below m))) (sym s.replies.shown))
