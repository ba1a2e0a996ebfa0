-- The query for the queue without its messages, and what is read of its rows.
use Rattle.std.proofs.Common.{◌≡◌, ◌<◌, ℕ, pos, List, [], ◌∷◌, map, filter, IfOk, IfSome, Ok, Err, Result, refl, sym, ap, ◌∙◌, subst, arith, Less, IsPermutation}
use Rattle.std.specs.FinMap.{get}
use Rattle.std.proofs.lemmas.Int.{ints}
use Rattle.std.proofs.lemmas.List.Sorted.{IsPermutation-map, IsPermutation-trans}
use Rattle.sqlite_value.specs.declared.value.Value.TheVariants.{Int}
use Rattle.sqlite_value.specs.declared.keys.Collation.TheVariants.{Binary}
use Rattle.sqlite_value.specs.Keys.{ascending}
use Rattle.sqlite_value.specs.Order.{Row, column}
use Rattle.sqlite_value.proofs.OrderLemmas.{value_cmp-Int}
use Rattle.sqlite_sql.specs.Term.{col}
use Rattle.sqlite_sql.specs.Ops.{unary}
use Rattle.sqlite_sql.specs.Text.{length_of}
use Rattle.sqlite_sql.specs.Query.{Query, Output, output_cmp}
use Rattle.sqlite_sql.proofs.QueryLemmas.{output_cmp_total}
use Rattle.sqlite_keyed.proofs.ListLemmas.{map-map, ascending-map, ascending_weaker}
use Rattle.sqlite_keyed.proofs.KeyedLemmas.{Less-from_lt}
use Rattle.sqlite_keyed.proofs.SortLemmas.{sorted_unique}
use Rattle.sqlite_typed.proofs.TestLemmas.{last_key}
use Rattle.sqlite.specs.State.{State, Shown}
use Rattle.store_tables.specs.Forms.{over_table}
use Rattle.store_tables.specs.Rows.{has_key}
use Rattle.store_tables.proofs.AnswerLemmas.{cells_in_order}
use Rattle.store_tables.proofs.ReadLemmas.{answered}
use Rattle.store_tables.proofs.ListLemmas.{owner_key}
use Rattle.store_tables.specs.Schema.{mail_schema}
use Rattle.store_tables.specs.declared.queue.QueuedKind.{QueuedKind}
use Rattle.store_tables.specs.declared.queue.QueuedKind.TheVariants.{Redirect, Reply}
use Rattle.store_tables.specs.QueueTable.{kind_number, outgoing, outgoing_tree, select_heads}
use Rattle.store_tables.proofs.SchemaFacts.{outgoing_listed}
use Rattle.store_tables.proofs.TextFacts.{by_one, heads_shown, select_heads_is, select_heads_plain}
use Rattle.store_accounts.specs.declared.queue.QueuedMessage.{QueuedMessage}
use Rattle.store_accounts.specs.declared.queued_envelope.QueuedEnvelope.{QueuedEnvelope}
use Rattle.store_accounts.specs.Account.{Account, Accounts}
use Rattle.store_accounts.specs.FirstCells.{first_five}
use Rattle.store_accounts.specs.QueueRows.{queue_row}
use Rattle.store_accounts.specs.HeadRows.{queued_envelope, head_cells, AreHeadRows}
use Rattle.store_accounts.specs.Shows.{Presents}
use Rattle.store_accounts.proofs.OneLemmas.{map_one}
use Rattle.store_accounts.proofs.ReadLemmas.{at_user}

abbrev by_id : Query
by_id = (over_table outgoing_tree by_one heads_shown ((col 1 2, ascending Binary) ∷ [])).body

head_output : QueuedMessage → Output
head_output out = (Int (pos out.id) ∷ [], head_cells (queued_envelope out))

heads_rise : (x y : QueuedMessage) → x.id < y.id → output_cmp by_id (head_output x) (head_output y) ≡ Less
unfolding head_output
heads_rise x y low = last_key (value_cmp-Int (pos x.id) (pos y.id) ∙ Less-from_lt (pos x.id) (pos y.id) (omega (arith, ints)))

module _ (old new : State) (rows : List Row) (accounts : Accounts) (p : Presents old.now accounts) (user : List ℕ) where
  pub heads_read : Shown select_heads (owner_key user) old new rows → IfSome (get accounts user) (AreHeadRows rows)
  unfolding head_output unary
  heads_read shown = at_user accounts user p.0 p.2 _ (λ a s.
      let own = has_key (owner_key user) in
      let show = λ (cells : Row). let o : Output = (column cells 1 ∷ [], column cells 1 ∷ column cells 2 ∷ column cells 3 ∷ column cells 4 ∷ length_of (column cells 5) ∷ []) in o in
      let found = cells_in_order old.now.trees outgoing_tree by_one heads_shown ((col 1 2, ascending Binary) ∷ []) (owner_key user) (p.0 outgoing_tree) (p.1.each outgoing outgoing_listed) own (λ n cells. refl) show (λ n cells. refl) rows
      (answered mail_schema select_heads (owner_key user) old new p.1.is select_heads_plain.0 outgoing_tree by_one heads_shown _ _ select_heads_is select_heads_plain.1 rows shown) in
      let outs : IsPermutation (map head_output a.queue) (map show (filter own (p.0 outgoing_tree))) =
      subst (λ l. IsPermutation l (map show (filter own (p.0 outgoing_tree)))) (map-map show (queue_row user) a.queue) (IsPermutation-map show _ _ s.queue.rows_are) in
      let rising = ascending-map (λ x y. output_cmp by_id x y ≡ Less) head_output a.queue (ascending_weaker _ (λ x y. output_cmp by_id (head_output x) (head_output y) ≡ Less) heads_rise a.queue s.queue.rise) in
      let is = sorted_unique (output_cmp by_id) (output_cmp_total by_id) (map head_output a.queue) found.0 rising (IsPermutation-trans _ _ _ outs found.1) found.2 in
      found.3 ∙ ap (map (λ (o : Output). o.1)) is ∙ map-map (λ (o : Output). o.1) head_output a.queue ∙ sym (map-map head_cells queued_envelope a.queue))

-- ---- what was read of them

head_one : (x y : QueuedEnvelope) → head_cells x ≡ head_cells y → x ≡ y
head_one x y e =
    let id : x.id ≡ y.id = cc in
    let number : kind_number x.kind ≡ kind_number y.kind = cc in
    let kind : x.kind ≡ y.kind = kind_one x.kind y.kind number in
    let sender : x.sender ≡ y.sender = cc in
    let target : x.target ≡ y.target = cc in
    let len : x.len ≡ y.len = cc in
    λ i. record { id = id i; kind = kind i; sender = sender i; target = target i; len = len i }
  where
    kind_one : (k l : QueuedKind) → kind_number k ≡ kind_number l → k ≡ l
    kind_one Redirect Redirect e = refl
    kind_one Reply Reply e = refl
    kind_one Redirect Reply e = absurd (omega (arith, e))
    kind_one Reply Redirect e = absurd (omega (arith, e))

pub heads_are : {E : Type 0} (r : Result (List QueuedEnvelope) E) (rows : List Row) (a : Account) → AreHeadRows rows a → IfOk r (λ all. map head_cells all ≡ map first_five rows) → IfOk r (λ all. all ≡ map queued_envelope a.queue)
heads_are (Err e) rows a are h = tt
heads_are (Ok all) rows a are h = map_one head_cells head_one all (map queued_envelope a.queue) (h ∙ ap (map first_five) are ∙ map-map first_five head_cells (map queued_envelope a.queue))
