-- What the queries for the replies find, and what is read of their rows.
use Rattle.std.proofs.Common.{◌≡◌, ℕ, pos, Bool, true, false, ◌&&◌, List, [], ◌∷◌, map, filter, Option, Some, None, option_map, slice_get, Ok, Err, Result, IfOk, IfSome, cond, refl, sym, ap, ◌∙◌, subst, inl, inr, is_eq, Ordering, Less, Equal, Greater, IsPermutation}
use Rattle.std.specs.List.{AllByRecursion}
use Rattle.std.specs.Ordering.{ordering_then}
use Rattle.std.specs.FinMap.{get, entries, from_entries, get-from_entries}
use Rattle.std.proofs.lemmas.Bool.{and_parts, and_from}
use Rattle.std.proofs.lemmas.List.Sorted.{IsPermutation-map, IsPermutation-trans, IsPermutation-sym}
use Rattle.sqlite_value.specs.declared.value.Value.TheVariants.{Int, Blob}
use Rattle.sqlite_value.specs.declared.keys.Collation.TheVariants.{Binary}
use Rattle.sqlite_value.specs.Keys.{ascending}
use Rattle.sqlite_value.specs.Order.{Row, column}
use Rattle.sqlite_value.proofs.OrderLemmas.{value_cmp-Blob}
use Rattle.sqlite_trees.specs.Tree.{IsAscending}
use Rattle.sqlite_sql.specs.declared.ops.CompareOp.TheVariants.{Eq}
use Rattle.sqlite_sql.specs.Term.{col}
use Rattle.sqlite_sql.specs.Query.{Query, Output, output_cmp}
use Rattle.sqlite_sql.proofs.QueryLemmas.{output_cmp_total}
use Rattle.sqlite_schema.specs.Rules.{equal}
use Rattle.sqlite_keyed.proofs.ListLemmas.{map-map, filter-map, filter_same, filter-filter, ascending-map, ascending-filter, all_both, IsPermutation-filter}
use Rattle.sqlite_keyed.proofs.SortLemmas.{sorted_unique}
use Rattle.sqlite_typed.proofs.TestLemmas.{at_blobs, last_key, last_term, same_bytes, bytes_eq_refl}
use Rattle.sqlite.specs.State.{State, Shown}
use Rattle.store_tables.specs.Forms.{over_table}
use Rattle.store_tables.specs.Rows.{Tables, HoldsTables, has_key}
use Rattle.store_tables.proofs.AnswerLemmas.{cells_in_order, cells_by_key}
use Rattle.store_tables.proofs.ReadLemmas.{answered}
use Rattle.store_tables.proofs.ListLemmas.{owner_key, pair_key, equal_itself}
use Rattle.store_accounts.specs.declared.reply.KeptReply.{KeptReply}
use Rattle.store_tables.specs.Schema.{mail_schema}
use Rattle.store_accounts.specs.FirstCells.{first_two}
use Rattle.store_accounts.specs.Account.{bytes_cmp, reply_cmp, Accounts, ReplyMoments}
use Rattle.store_accounts.specs.ScriptRows.{AreKeysApart}
use Rattle.store_tables.specs.ReplyTable.{reply, reply_tree, reply_key, select_moment, select_replies}
use Rattle.store_accounts.specs.ReplyRows.{reply_row, HasMomentRow, AreReplyRows, replies_to, kept_reply, kept_cells}
use Rattle.store_accounts.specs.Shows.{rows_of, Presents}
use Rattle.store_tables.proofs.SchemaFacts.{reply_listed}
use Rattle.store_tables.proofs.TextFacts.{by_three, by_sender, replies_shown, select_moment_is, select_moment_plain, select_replies_is, select_replies_plain}
use Rattle.store_tables.proofs.StatementLemmas.{reply_index, reply_agrees}
use Rattle.store_accounts.proofs.KeyLemmas.{key_owned}
use Rattle.store_accounts.proofs.MapLemmas.{tied_is, entries_permutation, entries_rise, first_found}
use Rattle.store_accounts.proofs.OneLemmas.{map_one}
use Rattle.store_accounts.proofs.ReadLemmas.{at_user}
use Rattle.store_accounts.proofs.AccountLemmas.{is_reply, reply_is, reply_total, reply_antisymmetric}

-- ---- one moment

module _ (old new : State) (rows : List Row) (accounts : Accounts) (p : Presents old.now accounts) (user : List ℕ) where
  pub moment_read : (key : List ℕ × List ℕ) → Shown select_moment (reply_key user key.0 key.1) old new rows → IfSome (get accounts user) (HasMomentRow key rows)
  moment_read key shown = at_user accounts user p.0 p.2 _ (λ a s.
      let three = reply_key user key.0 key.1 in
      let found = cells_by_key mail_schema reply reply_listed reply_index (inr (inr (inr (inr (inl refl))))) refl three (0 ∷ 1 ∷ 2 ∷ []) (reply_agrees user key.0 key.1) old.now.trees p.1.fits (p.0 reply_tree) (p.1.each reply reply_listed)
      by_three three (λ n cells. refl) (col 1 4 ∷ []) (λ c. column c 3 ∷ []) (λ n cells. refl) [] rows
      (answered mail_schema select_moment three old new p.1.is select_moment_plain.0 reply_tree by_three (col 1 4 ∷ []) [] _ select_moment_is select_moment_plain.1 rows shown) in
      let mine = sym (filter-filter (has_key three) (has_key (owner_key user)) (key_owned user (Blob key.0 ∷ Blob key.1 ∷ [])) (p.0 reply_tree)) ∙ ap (filter (has_key three)) s.replies.rows_are
      ∙ filter-map (has_key three) (reply_row user) s.replies.entries
      ∙ ap (map (reply_row user)) (filter_same _ (is_reply key) (λ e. reply_is user key.0 key.1 e.0.0 e.0.1 (Int (pos e.1) ∷ [])) s.replies.entries) in
      ap (λ l. slice_get l 0) (found ∙ ap (map (λ cells. column cells 3 ∷ [])) mine ∙ map-map (λ (cells : Row). column cells 3 ∷ []) (reply_row user) (filter (is_reply key) s.replies.entries))
      ∙ first_found reply_cmp reply_total reply_antisymmetric (λ moment. Int (pos moment) ∷ []) key s.replies.entries
      ∙ ap (option_map (λ m. Int (pos m) ∷ [])) (sym (ap (λ m. get m key) s.replies.shown ∙ get-from_entries reply_total s.replies.entries key)))

same_moment : (x y : Option ℕ) → option_map (λ m. Int (pos m)) x ≡ option_map (λ m. Int (pos m)) y → x ≡ y
same_moment None None e = refl
same_moment None (Some y) e = cc
same_moment (Some x) None e = cc
same_moment (Some x) (Some y) e = let same : x ≡ y = cc in ap Some same

first_column : (o : Option ℕ) → option_map (λ row. column row 0) (option_map (λ m. Int (pos m) ∷ []) o) ≡ option_map (λ m. Int (pos m)) o
first_column None = refl
first_column (Some m) = refl

pub moment_is : {E : Type 0} (r : Result (Option ℕ) E) (rows : List Row) (wanted : Option ℕ) → slice_get rows 0 ≡ option_map (λ m. Int (pos m) ∷ []) wanted
    → IfOk r (λ moment. option_map (λ m. Int (pos m)) moment ≡ option_map (λ row. column row 0) (slice_get rows 0)) → IfOk r (λ moment. moment ≡ wanted)
moment_is (Err e) rows wanted are h = tt
moment_is (Ok moment) rows wanted are h = same_moment moment wanted (h ∙ ap (option_map (λ row. column row 0)) are ∙ first_column wanted)

-- ---- the replies to one sender

abbrev Reply : Type 0
Reply = (List ℕ × List ℕ) × ℕ

abbrev goes_to : List ℕ → Reply → Bool
goes_to sender e = is_eq (bytes_cmp e.0.1 sender)

-- the row's owner and its sender are these
abbrev is_sent : List ℕ → List ℕ → Row → Bool
is_sent owner sender cells = equal Binary (column cells 0) (Blob owner) && (equal Binary (column cells 2) (Blob sender) && true)

sent_owned : (owner sender : List ℕ) (cells : Row) → is_sent owner sender cells ≡ true → has_key (owner_key owner) cells ≡ true
sent_owned owner sender cells h = and_from _ _ (and_parts _ _ h).0 refl

sent_is : (owner sender : List ℕ) (e : Reply) → is_sent owner sender (reply_row owner e) ≡ goes_to sender e
sent_is owner sender e = rw (equal_itself owner) (last_term (at_blobs false Eq e.0.1 sender))

ascending_within : {X : Type 0} (P : X → Type 0) (R S : X → X → Type 0) → ((x y : X) → P x → P y → R x y → S x y) → (xs : List X) → AllByRecursion P xs → IsAscending R xs → IsAscending S xs
ascending_within P R S f [] all up = tt
ascending_within P R S f (x ∷ xs) all up = (all_both P (R x) (S x) (λ y h low. f x y all.0 h low) xs all.1 up.0, ascending_within P R S f xs all.1 up.1)

passes : {X : Type 0} (p : X → Bool) (xs : List X) → AllByRecursion (λ x. p x ≡ true) (filter p xs)
passes p [] = tt
passes p (x ∷ xs) = go (p x) refl (passes p xs)
  where
    go : (b : Bool) → p x ≡ b → AllByRecursion (λ y. p y ≡ true) (filter p xs) → AllByRecursion (λ y. p y ≡ true) (cond b (x ∷ filter p xs) (filter p xs))
    go true is more = (is, more)
    go false is more = more

first_decides : (o t : Ordering) → t ≡ Equal → ordering_then o t ≡ Less → o ≡ Less
first_decides Less t tied h = refl
first_decides Equal t tied h = absurd (let no = sym tied ∙ h in cc)
first_decides Greater t tied h = absurd (let no = h in cc)

equal_bytes : (x y s : List ℕ) → is_eq (bytes_cmp x s) ≡ true → is_eq (bytes_cmp y s) ≡ true → bytes_cmp x y ≡ Equal
equal_bytes x y s h k =
    let same : x ≡ y = same_bytes x s h ∙ sym (same_bytes y s k) in
    rw same (tied_is (bytes_cmp y y) (bytes_eq_refl y))

-- of one sender the handles rise
handles_rise : (sender : List ℕ) (x y : Reply) → goes_to sender x ≡ true → goes_to sender y ≡ true → reply_cmp x.0 y.0 ≡ Less → bytes_cmp x.0.0 y.0.0 ≡ Less
handles_rise sender x y h k low = first_decides (bytes_cmp x.0.0 y.0.0) (bytes_cmp x.0.1 y.0.1) (equal_bytes x.0.1 y.0.1 sender h k) low

abbrev by_handle : Query
by_handle = (over_table reply_tree by_sender replies_shown ((col 1 2, ascending Binary) ∷ [])).body

reply_output : Reply → Output
reply_output e = (Blob e.0.0 ∷ [], kept_cells (kept_reply e))

replies_rise : (x y : Reply) → bytes_cmp x.0.0 y.0.0 ≡ Less → output_cmp by_handle (reply_output x) (reply_output y) ≡ Less
unfolding reply_output
replies_rise x y low = last_key (value_cmp-Blob x.0.0 y.0.0 ∙ low)

module _ (old new : State) (rows : List Row) (tables : Tables) (h : HoldsTables mail_schema old.now tables) where
  replies_found : (owner sender : List ℕ) (es : List Reply) → rows_of owner tables reply_tree ≡ map (reply_row owner) es → AreKeysApart es → Shown select_replies (pair_key owner sender) old new rows
      → rows ≡ map kept_cells (map kept_reply (replies_to sender (from_entries es)))
  unfolding reply_output
  replies_found owner sender es are apart shown =
      let p = is_sent owner sender in
      let m : ReplyMoments = from_entries es in
      let few = replies_to sender m in
      let show = λ (cells : Row). let o : Output = (column cells 1 ∷ [], column cells 1 ∷ column cells 3 ∷ []) in o in
      let found = cells_in_order old.now.trees reply_tree by_sender replies_shown ((col 1 2, ascending Binary) ∷ []) (pair_key owner sender) (tables reply_tree) (h.each reply reply_listed) p (λ n cells. refl) show (λ n cells. refl) rows
      (answered mail_schema select_replies (pair_key owner sender) old new h.is select_replies_plain.0 reply_tree by_sender replies_shown _ _ select_replies_is select_replies_plain.1 rows shown) in
      let mine : filter p (tables reply_tree) ≡ map (reply_row owner) (filter (goes_to sender) es) =
      sym (filter-filter p (has_key (owner_key owner)) (sent_owned owner sender) (tables reply_tree)) ∙ ap (filter p) are ∙ filter-map p (reply_row owner) es ∙ ap (map (reply_row owner)) (filter_same _ (goes_to sender) (sent_is owner sender) es) in
      let outs : map show (filter p (tables reply_tree)) ≡ map reply_output (filter (goes_to sender) es) = ap (map show) mine ∙ map-map show (reply_row owner) (filter (goes_to sender) es) in
      let ordered = IsPermutation-filter (goes_to sender) _ _ (IsPermutation-sym _ _ (entries_permutation reply_cmp reply_total reply_antisymmetric es apart)) in
      let same = IsPermutation-trans _ _ _ (IsPermutation-map reply_output _ _ ordered) (subst (λ l. IsPermutation l found.0) outs found.1) in
      let up = ascending_within (λ x. goes_to sender x ≡ true) (λ x y. reply_cmp x.0 y.0 ≡ Less) (λ x y. output_cmp by_handle (reply_output x) (reply_output y) ≡ Less) (λ x y tx ty low. replies_rise x y (handles_rise sender x y tx ty low)) few (passes (goes_to sender) (entries m))
      (ascending-filter (λ x y. reply_cmp x.0 y.0 ≡ Less) (goes_to sender) (entries m) (entries_rise reply_cmp reply_total reply_antisymmetric m)) in
      let rising = ascending-map (λ x y. output_cmp by_handle x y ≡ Less) reply_output few up in
      let is = sorted_unique (output_cmp by_handle) (output_cmp_total by_handle) (map reply_output few) found.0 rising same found.2 in
      found.3 ∙ ap (map (λ (o : Output). o.1)) is ∙ map-map (λ (o : Output). o.1) reply_output few ∙ sym (map-map kept_cells kept_reply few)

pub replies_read : (old new : State) (rows : List Row) (accounts : Accounts) (p : Presents old.now accounts) (user sender : List ℕ) → Shown select_replies (pair_key user sender) old new rows → IfSome (get accounts user) (AreReplyRows sender rows)
replies_read old new rows accounts p user sender shown = at_user accounts user p.0 p.2 _ (λ a s.
    replies_found old new rows p.0 p.1 user sender s.replies.entries s.replies.rows_are s.replies.apart shown ∙ ap (λ m. map kept_cells (map kept_reply (replies_to sender m))) (sym s.replies.shown))

kept_one : (x y : KeptReply) → kept_cells x ≡ kept_cells y → x ≡ y
kept_one x y e =
    let handle : x.handle ≡ y.handle = cc in
    let moment : x.moment ≡ y.moment = cc in
    λ i. record { handle = handle i; moment = moment i }

pub replies_are : {E : Type 0} (r : Result (List KeptReply) E) (rows : List Row) (wanted : List KeptReply) → rows ≡ map kept_cells wanted → IfOk r (λ all. map kept_cells all ≡ map first_two rows) → IfOk r (λ all. all ≡ wanted)
replies_are (Err e) rows wanted are h = tt
replies_are (Ok all) rows wanted are h = map_one kept_cells kept_one all wanted (h ∙ ap (map first_two) are ∙ map-map first_two kept_cells wanted)
