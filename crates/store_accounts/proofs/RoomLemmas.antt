-- The query for the numbers of a queue's first rows, and how many more may join it.
use Rattle.std.proofs.Common.{◌≡◌, ◌<◌, ◌-◌, ℕ, pos, List, [], ◌∷◌, codes, map, filter, take, length, false, IfOk, IfSome, Ok, Err, Result, refl, sym, ap, ◌∙◌, subst, arith, Less, IsPermutation}
use Rattle.std.specs.FinMap.{get}
use Rattle.std.proofs.lemmas.Int.{ints}
use Rattle.std.proofs.lemmas.List.{take-map, length-take, length-map}
use Rattle.std.proofs.lemmas.List.Sorted.{IsPermutation-map, IsPermutation-trans}
use Rattle.sqlite_value.specs.declared.value.Value.TheVariants.{Int}
use Rattle.sqlite_value.specs.declared.keys.Collation.TheVariants.{Binary}
use Rattle.sqlite_value.specs.Keys.{ascending}
use Rattle.sqlite_value.specs.Order.{Row, column}
use Rattle.sqlite_value.proofs.OrderLemmas.{value_cmp-Int}
use Rattle.sqlite_schema.specs.declared.command.Command.TheVariants.{Select}
use Rattle.sqlite_sql.specs.Term.{col}
use Rattle.sqlite_sql.specs.Query.{Query, Output, output_cmp}
use Rattle.sqlite_sql.proofs.QueryLemmas.{output_cmp_total}
use Rattle.sqlite_tied.specs.Compute.{everything}
use Rattle.sqlite_keyed.proofs.ListLemmas.{map-map, ascending-map, ascending_weaker}
use Rattle.sqlite_keyed.proofs.KeyedLemmas.{Less-from_lt}
use Rattle.sqlite_keyed.proofs.SortLemmas.{sorted_unique}
use Rattle.sqlite_typed.proofs.TestLemmas.{last_key}
use Rattle.sqlite.specs.Listing.{understood, reads_listing}
use Rattle.sqlite.specs.State.{State, Shown}
use Rattle.sqlite.proofs.Callers.{IsPlain, command_of}
use Rattle.store_tables.specs.Forms.{most_over}
use Rattle.store_tables.specs.Rows.{has_key}
use Rattle.store_tables.specs.Schema.{mail_schema}
use Rattle.store_tables.specs.QueueTable.{outgoing, outgoing_tree}
use Rattle.store_tables.proofs.AnswerLemmas.{most_in_order}
use Rattle.store_tables.proofs.ListLemmas.{owner_key}
use Rattle.store_tables.proofs.ReadLemmas.{answered_most}
use Rattle.store_tables.proofs.SchemaFacts.{outgoing_listed}
use Rattle.store_tables.proofs.TextFacts.{by_one}
use Rattle.store_accounts.specs.declared.queue.QueuedMessage.{QueuedMessage}
use Rattle.store_accounts.specs.Account.{Account, Accounts, max_waiting}
use Rattle.store_accounts.specs.FirstCells.{first_one}
use Rattle.store_accounts.specs.FolderNumbers.{number_cells}
use Rattle.store_accounts.specs.Listing.{AreFirstIdRows, select_first_ids}
use Rattle.store_accounts.specs.QueueRows.{queue_row, AreFirstIds}
use Rattle.store_accounts.specs.Shows.{Presents}
use Rattle.store_accounts.proofs.ListedLemmas.{number_one}
use Rattle.store_accounts.proofs.OneLemmas.{map_one}
use Rattle.store_accounts.proofs.ReadLemmas.{at_user}

select_first_ids_is : command_of (understood mail_schema select_first_ids) ≡ Select (most_over 1000 outgoing_tree by_one (col 1 2 ∷ []) ((col 1 2, ascending Binary) ∷ [])) (codes "id" ∷ [])
unfolding understood everything
select_first_ids_is = refl

pub select_first_ids_plain : IsPlain (understood mail_schema select_first_ids) × (reads_listing mail_schema select_first_ids ≡ false)
unfolding understood everything
select_first_ids_plain = ((refl, refl), refl)

abbrev by_id : Query
by_id = (most_over 1000 outgoing_tree by_one (col 1 2 ∷ []) ((col 1 2, ascending Binary) ∷ [])).body

id_output : QueuedMessage → Output
id_output out = (Int (pos out.id) ∷ [], number_cells out.id)

ids_rise : (x y : QueuedMessage) → x.id < y.id → output_cmp by_id (id_output x) (id_output y) ≡ Less
unfolding id_output
ids_rise x y low = last_key (value_cmp-Int (pos x.id) (pos y.id) ∙ Less-from_lt (pos x.id) (pos y.id) (omega (arith, ints)))

-- the first of the rows show the first of the numbers
first_shown : (n : ℕ) (queue : List QueuedMessage) → take n (map (λ (o : Output). o.1) (map id_output queue)) ≡ map number_cells (take n (map (λ (out : QueuedMessage). out.id) queue))
unfolding id_output
first_shown n queue =
    ap (take n) (map-map (λ (o : Output). o.1) id_output queue ∙ sym (map-map number_cells (λ (out : QueuedMessage). out.id) queue)) ∙ take-map number_cells n (map (λ (out : QueuedMessage). out.id) queue)

module _ (old new : State) (rows : List Row) (accounts : Accounts) (p : Presents old.now accounts) (user : List ℕ) where
  pub first_ids_read : Shown select_first_ids (owner_key user) old new rows → IfSome (get accounts user) (AreFirstIdRows rows)
  unfolding id_output
  first_ids_read shown = at_user accounts user p.0 p.2 _ (λ a s.
      let own = has_key (owner_key user) in
      let show = λ (cells : Row). let o : Output = (column cells 1 ∷ [], column cells 1 ∷ []) in o in
      let found = most_in_order old.now.trees outgoing_tree by_one (col 1 2 ∷ []) ((col 1 2, ascending Binary) ∷ []) (owner_key user) (p.0 outgoing_tree) (p.1.each outgoing outgoing_listed) own (λ n cells. refl) 1000 show (λ n cells. refl) rows
      (answered_most mail_schema select_first_ids (owner_key user) old new p.1.is select_first_ids_plain.0 1000 outgoing_tree by_one (col 1 2 ∷ []) _ _ select_first_ids_is select_first_ids_plain.1 rows shown) in
      let outs : IsPermutation (map id_output a.queue) (map show (filter own (p.0 outgoing_tree))) =
      subst (λ l. IsPermutation l (map show (filter own (p.0 outgoing_tree)))) (map-map show (queue_row user) a.queue) (IsPermutation-map show _ _ s.queue.rows_are) in
      let rising = ascending-map (λ x y. output_cmp by_id x y ≡ Less) id_output a.queue (ascending_weaker _ (λ x y. output_cmp by_id (id_output x) (id_output y) ≡ Less) ids_rise a.queue s.queue.rise) in
      let is = sorted_unique (output_cmp by_id) (output_cmp_total by_id) (map id_output a.queue) found.0 rising (IsPermutation-trans _ _ _ outs found.1) found.2 in
      found.3 ∙ ap (λ (l : List Output). take max_waiting (map (λ (o : Output). o.1) l)) is ∙ first_shown max_waiting a.queue)

pub first_ids_are : {E : Type 0} (r : Result (List ℕ) E) (rows : List Row) (a : Account) → AreFirstIdRows rows a → IfOk r (λ all. map number_cells all ≡ map first_one rows) → IfOk r (λ all. AreFirstIds all a)
first_ids_are (Err e) rows a are h = tt
first_ids_are (Ok all) rows a are h =
    let ids = take max_waiting (map (λ (out : QueuedMessage). out.id) a.queue) in
    map_one number_cells number_one all ids (h ∙ ap (map first_one) are ∙ map-map first_one number_cells ids)

-- what is left up to the most
pub room_left : (most : ℕ) (queue : List QueuedMessage) (ids : List ℕ) → ids ≡ take most (map (λ out. out.id) queue) → most - length ids ≡ most - length queue
room_left most queue ids are =
    let many = ap length are ∙ length-take most (map (λ (out : QueuedMessage). out.id) queue) in
    let all = length-map queue (λ (out : QueuedMessage). out.id) in
    omega (arith, many, all)
