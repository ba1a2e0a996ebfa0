-- The queries for what comes next over all users.
use Rattle.std.proofs.Common.{◌≡◌, ◌⊎◌, ◌&&◌, ◌<◌, ℕ, ℤ, pos, Bool, true, false, List, [], ◌∷◌, map, refl, sym, ap, ap₂, ◌∙◌, subst, inl, inr, arith, Ordering, Less, Equal, Greater, is_eq, is_lt, int_lt, true≢false, Option, Some, None, Ok, Err, Result, Vec, IfOk, OnOk}
use Rattle.std.specs.declared.alloc.Global.{Global}
use Rattle.std.specs.List.{list_all}
use Rattle.std.specs.Cmp.{IsTotalOrder}
use Rattle.std.specs.Ordering.{int_cmp, nat_cmp}
use Rattle.std.proofs.lemmas.Bool.{and_parts, and_from}
use Rattle.std.proofs.lemmas.Cmp.{nat_cmp_total, nat_list_cmp_total, then_total, on_total}
use Rattle.std.proofs.lemmas.Int.{ints}
use Rattle.sqlite_value.specs.declared.value.Value.TheVariants.{Int, Blob}
use Rattle.sqlite_value.specs.Order.{Row, column}
use Rattle.sqlite_value.proofs.OrderLemmas.{value_cmp-Int, value_cmp-Blob}
use Rattle.sqlite_sql.specs.Term.{Term, lit, col, holds}
use Rattle.sqlite_sql.specs.Query.{Query, Output, output_cmp}
use Rattle.sqlite_sql.specs.declared.ops.CompareOp.TheVariants.{Eq, Gt}
use Rattle.sqlite_typed.proofs.TestLemmas.{at_blobs, at_ints, last_term, then_term, last_key, then_key, same_bytes, bytes_eq_refl}
use Rattle.sqlite.specs.State.{State, Shown, HasCleanDisk}
use Rattle.store_tables.specs.Forms.{equals, first_over}
use Rattle.store_tables.specs.Rows.{Tables, HoldsTables}
use Rattle.store_tables.proofs.FirstRowLemmas.{first_row}
use Rattle.store_tables.proofs.ReadLemmas.{answered_nth}
use Rattle.store_tables.specs.Schema.{mail_schema}
use Rattle.store_tables.specs.CopyTable.{copy, copy_tree, select_later_number, select_later_folder, select_later_owner}
use Rattle.store_tables.specs.QueueTable.{outgoing, outgoing_tree, select_later_id, select_later_queue}
use Rattle.store_tables.proofs.SchemaFacts.{copy_listed, outgoing_listed}
use Rattle.store_tables.proofs.TextFacts.{exceeds, place_shown, by_place, queued_shown, by_queued, select_later_number_is, select_later_number_plain, select_later_folder_is, select_later_folder_plain, select_later_owner_is, select_later_owner_plain, select_later_id_is, select_later_id_plain, select_later_queue_is, select_later_queue_plain}
use Rattle.store_accounts.specs.declared.next.CopyKey.{CopyKey}
use Rattle.store_accounts.specs.declared.next.QueueKey.{QueueKey}
use Rattle.store_accounts.specs.Account.{bytes_cmp}
use Rattle.store_accounts.specs.FirstCells.{first_two, first_three}
use Rattle.store_accounts.specs.Next.{filed_cmp, queued_cmp, filed_cells, queue_key_cells, IsLaterNumber, IsLaterFolder, IsLaterOwner, IsLaterId, IsLaterQueue, ShowFiled, ShowQueued, ShowLaterNumber, ShowLaterId}
use Rattle.store_accounts.proofs.LeastLemmas.{row_least}

-- ---- the orders

pub filed_total : IsTotalOrder filed_cmp
filed_total = then_total (on_total (λ f. f.user) nat_list_cmp_total) (then_total (on_total (λ f. f.folder) nat_list_cmp_total) (on_total (λ f. f.number) nat_cmp_total))

pub queued_total : IsTotalOrder queued_cmp
queued_total = then_total (on_total (λ q. q.user) nat_list_cmp_total) (on_total (λ q. q.id) nat_cmp_total)

abbrev filed_query : List Term → Query
filed_query terms = (first_over copy_tree terms place_shown by_place).body

abbrev queued_query : List Term → Query
queued_query terms = (first_over outgoing_tree terms queued_shown by_queued).body

ranked : (m n : ℕ) → int_cmp (pos m) (pos n) ≡ nat_cmp m n
ranked m n = grind (arith, ints)

filed_orders : (terms : List Term) (x y : CopyKey) → output_cmp (filed_query terms) (filed_cells x, filed_cells x) (filed_cells y, filed_cells y) ≡ filed_cmp x y
filed_orders terms x y = then_key (value_cmp-Blob x.user y.user) (then_key (value_cmp-Blob x.folder y.folder) (last_key (value_cmp-Int (pos x.number) (pos y.number) ∙ ranked x.number y.number)))

queued_orders : (terms : List Term) (x y : QueueKey) → output_cmp (queued_query terms) (queue_key_cells x, queue_key_cells x) (queue_key_cells y, queue_key_cells y) ≡ queued_cmp x y
queued_orders terms x y = then_key (value_cmp-Blob x.user y.user) (last_key (value_cmp-Int (pos x.id) (pos y.id) ∙ ranked x.id y.id))

-- ---- the tests

less_is : (o : Ordering) → is_lt o ≡ true → o ≡ Less
less_is Less h = refl
less_is Equal h = absurd (true≢false (sym h))
less_is Greater h = absurd (true≢false (sym h))

below_is : (m n : ℕ) → int_lt (pos m) (pos n) ≡ true → m < n
below_is m n h = grind (arith, ints)

is_below : (m n : ℕ) → m < n → int_lt (pos m) (pos n) ≡ true
is_below m n h = grind (arith, ints)

-- what is asked with, and the terms
abbrev passes : List Term → Row → Row → Bool
passes terms params cells = list_all (holds (params ∷ (Int (pos 0) ∷ cells) ∷ [])) terms

abbrev number_terms : List Term
number_terms = equals 1 0 ∷ equals 2 1 ∷ exceeds 3 2 ∷ []

abbrev folder_terms : List Term
folder_terms = equals 1 0 ∷ exceeds 2 1 ∷ []

abbrev owner_terms : List Term
owner_terms = exceeds 1 0 ∷ []

abbrev pub number_params : List ℕ → List ℕ → ℤ → Row
number_params owner folder n = Blob owner ∷ Blob folder ∷ Int n ∷ []

abbrev pub folder_params : List ℕ → List ℕ → Row
folder_params owner folder = Blob owner ∷ Blob folder ∷ []

abbrev pub owner_params : List ℕ → Row
owner_params owner = Blob owner ∷ []

abbrev pub id_params : List ℕ → ℤ → Row
id_params owner id = Blob owner ∷ Int id ∷ []

number_tested : (owner folder : List ℕ) (n : ℕ) (f : CopyKey) → passes number_terms (number_params owner folder (pos n)) (filed_cells f) ≡ (is_eq (bytes_cmp f.user owner) && (is_eq (bytes_cmp f.folder folder) && int_lt (pos n) (pos f.number)))
number_tested owner folder n f = then_term (at_blobs false Eq f.user owner) (then_term (at_blobs false Eq f.folder folder) (last_term (at_ints false Gt (pos f.number) (pos n))))

number_tells : (owner folder : List ℕ) (n : ℕ) (f : CopyKey) → passes number_terms (number_params owner folder (pos n)) (filed_cells f) ≡ true → IsLaterNumber owner folder n f
number_tells owner folder n f h =
    let one = and_parts (is_eq (bytes_cmp f.user owner)) (is_eq (bytes_cmp f.folder folder) && int_lt (pos n) (pos f.number)) (sym (number_tested owner folder n f) ∙ h) in
    let two = and_parts (is_eq (bytes_cmp f.folder folder)) (int_lt (pos n) (pos f.number)) one.1 in
    (same_bytes f.user owner one.0, same_bytes f.folder folder two.0, below_is n f.number two.1)

number_told : (owner folder : List ℕ) (n : ℕ) (f : CopyKey) → IsLaterNumber owner folder n f → passes number_terms (number_params owner folder (pos n)) (filed_cells f) ≡ true
number_told owner folder n f h =
    number_tested owner folder n f ∙ and_from (is_eq (bytes_cmp f.user owner)) (is_eq (bytes_cmp f.folder folder) && int_lt (pos n) (pos f.number)) (ap (λ l. is_eq (bytes_cmp l owner)) h.0 ∙ bytes_eq_refl owner)
    (and_from (is_eq (bytes_cmp f.folder folder)) (int_lt (pos n) (pos f.number)) (ap (λ l. is_eq (bytes_cmp l folder)) h.1 ∙ bytes_eq_refl folder) (is_below n f.number h.2))

folder_tested : (owner folder : List ℕ) (f : CopyKey) → passes folder_terms (folder_params owner folder) (filed_cells f) ≡ (is_eq (bytes_cmp f.user owner) && is_lt (bytes_cmp folder f.folder))
folder_tested owner folder f = then_term (at_blobs false Eq f.user owner) (last_term (at_blobs false Gt f.folder folder))

folder_tells : (owner folder : List ℕ) (f : CopyKey) → passes folder_terms (folder_params owner folder) (filed_cells f) ≡ true → IsLaterFolder owner folder f
folder_tells owner folder f h =
    let one = and_parts (is_eq (bytes_cmp f.user owner)) (is_lt (bytes_cmp folder f.folder)) (sym (folder_tested owner folder f) ∙ h) in
    (same_bytes f.user owner one.0, less_is (bytes_cmp folder f.folder) one.1)

folder_told : (owner folder : List ℕ) (f : CopyKey) → IsLaterFolder owner folder f → passes folder_terms (folder_params owner folder) (filed_cells f) ≡ true
folder_told owner folder f h =
    folder_tested owner folder f ∙ and_from (is_eq (bytes_cmp f.user owner)) (is_lt (bytes_cmp folder f.folder)) (ap (λ l. is_eq (bytes_cmp l owner)) h.0 ∙ bytes_eq_refl owner) (ap is_lt h.1)

owner_tested : (owner : List ℕ) (f : CopyKey) → passes owner_terms (owner_params owner) (filed_cells f) ≡ is_lt (bytes_cmp owner f.user)
owner_tested owner f = last_term (at_blobs false Gt f.user owner)

id_tested : (owner : List ℕ) (id : ℕ) (q : QueueKey) → passes folder_terms (id_params owner (pos id)) (queue_key_cells q) ≡ (is_eq (bytes_cmp q.user owner) && int_lt (pos id) (pos q.id))
id_tested owner id q = then_term (at_blobs false Eq q.user owner) (last_term (at_ints false Gt (pos q.id) (pos id)))

id_tells : (owner : List ℕ) (id : ℕ) (q : QueueKey) → passes folder_terms (id_params owner (pos id)) (queue_key_cells q) ≡ true → IsLaterId owner id q
id_tells owner id q h =
    let one = and_parts (is_eq (bytes_cmp q.user owner)) (int_lt (pos id) (pos q.id)) (sym (id_tested owner id q) ∙ h) in
    (same_bytes q.user owner one.0, below_is id q.id one.1)

id_told : (owner : List ℕ) (id : ℕ) (q : QueueKey) → IsLaterId owner id q → passes folder_terms (id_params owner (pos id)) (queue_key_cells q) ≡ true
id_told owner id q h = id_tested owner id q ∙ and_from (is_eq (bytes_cmp q.user owner)) (int_lt (pos id) (pos q.id)) (ap (λ l. is_eq (bytes_cmp l owner)) h.0 ∙ bytes_eq_refl owner) (is_below id q.id h.1)

queue_tested : (owner : List ℕ) (q : QueueKey) → passes owner_terms (owner_params owner) (queue_key_cells q) ≡ is_lt (bytes_cmp owner q.user)
queue_tested owner q = last_term (at_blobs false Gt q.user owner)

-- ---- the rows

module _ (old new : State) (rows : List Row) (tables : Tables) (h : HoldsTables mail_schema old.now tables) where
  abbrev filed_shown : Row → Output
  filed_shown c = (first_three c, first_three c)

  abbrev queued_shown_as : Row → Output
  queued_shown_as c = (first_two c, first_two c)

  pub later_number_read : (owner folder : List ℕ) (n : ℤ) → Shown select_later_number (number_params owner folder n) old new rows → ShowLaterNumber owner folder n rows tables
  later_number_read owner folder n shown m given =
      let params = number_params owner folder (pos m) in
      let asked = subst (λ i. Shown select_later_number (number_params owner folder i) old new rows) given shown in
      row_least filed_cells first_three (λ c. refl) filed_cmp filed_total (IsLaterNumber owner folder m) (tables copy_tree) (output_cmp (filed_query number_terms)) (passes number_terms params) (λ c. refl) (number_tells owner folder m)
      (number_told owner folder m) (filed_orders number_terms) rows
      (first_row old.now.trees copy_tree number_terms place_shown by_place params (tables copy_tree) (h.each copy copy_listed) (passes number_terms params) (λ n cells. refl) filed_shown (λ n cells. refl) rows
      (answered_nth mail_schema select_later_number params old new h.is select_later_number_plain.0 (lit (Int (pos 0))) copy_tree number_terms place_shown _ _ select_later_number_is select_later_number_plain.1 rows asked))

  pub later_folder_read : (owner folder : List ℕ) → Shown select_later_folder (folder_params owner folder) old new rows → ShowFiled (IsLaterFolder owner folder) rows tables
  later_folder_read owner folder shown =
      let params = folder_params owner folder in
      row_least filed_cells first_three (λ c. refl) filed_cmp filed_total (IsLaterFolder owner folder) (tables copy_tree) (output_cmp (filed_query folder_terms)) (passes folder_terms params) (λ c. refl) (folder_tells owner folder)
      (folder_told owner folder) (filed_orders folder_terms) rows
      (first_row old.now.trees copy_tree folder_terms place_shown by_place params (tables copy_tree) (h.each copy copy_listed) (passes folder_terms params) (λ n cells. refl) filed_shown (λ n cells. refl) rows
      (answered_nth mail_schema select_later_folder params old new h.is select_later_folder_plain.0 (lit (Int (pos 0))) copy_tree folder_terms place_shown _ _ select_later_folder_is select_later_folder_plain.1 rows shown))

  pub later_owner_read : (owner : List ℕ) → Shown select_later_owner (owner_params owner) old new rows → ShowFiled (IsLaterOwner owner) rows tables
  later_owner_read owner shown =
      let params = owner_params owner in
      row_least filed_cells first_three (λ c. refl) filed_cmp filed_total (IsLaterOwner owner) (tables copy_tree) (output_cmp (filed_query owner_terms)) (passes owner_terms params) (λ c. refl)
      (λ f passed. less_is (bytes_cmp owner f.user) (sym (owner_tested owner f) ∙ passed)) (λ f later. owner_tested owner f ∙ ap is_lt later) (filed_orders owner_terms) rows
      (first_row old.now.trees copy_tree owner_terms place_shown by_place params (tables copy_tree) (h.each copy copy_listed) (passes owner_terms params) (λ n cells. refl) filed_shown (λ n cells. refl) rows
      (answered_nth mail_schema select_later_owner params old new h.is select_later_owner_plain.0 (lit (Int (pos 0))) copy_tree owner_terms place_shown _ _ select_later_owner_is select_later_owner_plain.1 rows shown))

  pub later_id_read : (owner : List ℕ) (id : ℤ) → Shown select_later_id (id_params owner id) old new rows → ShowLaterId owner id rows tables
  later_id_read owner id shown m given =
      let params = id_params owner (pos m) in
      let asked = subst (λ i. Shown select_later_id (id_params owner i) old new rows) given shown in
      row_least queue_key_cells first_two (λ c. refl) queued_cmp queued_total (IsLaterId owner m) (tables outgoing_tree) (output_cmp (queued_query folder_terms)) (passes folder_terms params) (λ c. refl) (id_tells owner m) (id_told owner m)
      (queued_orders folder_terms) rows
      (first_row old.now.trees outgoing_tree folder_terms queued_shown by_queued params (tables outgoing_tree) (h.each outgoing outgoing_listed) (passes folder_terms params) (λ n cells. refl) queued_shown_as (λ n cells. refl) rows
      (answered_nth mail_schema select_later_id params old new h.is select_later_id_plain.0 (lit (Int (pos 0))) outgoing_tree folder_terms queued_shown _ _ select_later_id_is select_later_id_plain.1 rows asked))

  pub later_queue_read : (owner : List ℕ) → Shown select_later_queue (owner_params owner) old new rows → ShowQueued (IsLaterQueue owner) rows tables
  later_queue_read owner shown =
      let params = owner_params owner in
      row_least queue_key_cells first_two (λ c. refl) queued_cmp queued_total (IsLaterQueue owner) (tables outgoing_tree) (output_cmp (queued_query owner_terms)) (passes owner_terms params) (λ c. refl)
      (λ q passed. less_is (bytes_cmp owner q.user) (sym (queue_tested owner q) ∙ passed)) (λ q later. queue_tested owner q ∙ ap is_lt later) (queued_orders owner_terms) rows
      (first_row old.now.trees outgoing_tree owner_terms queued_shown by_queued params (tables outgoing_tree) (h.each outgoing outgoing_listed) (passes owner_terms params) (λ n cells. refl) queued_shown_as (λ n cells. refl) rows
      (answered_nth mail_schema select_later_queue params old new h.is select_later_queue_plain.0 (lit (Int (pos 0))) outgoing_tree owner_terms queued_shown _ _ select_later_queue_is select_later_queue_plain.1 rows shown))
