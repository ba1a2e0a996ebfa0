-- A message on its way out, read by its number.
use Rattle.std.proofs.Common.{◌≡◌, ◌==◌, ◌<◌, ℕ, ℤ, pos, List, [], ◌∷◌, map, filter, find, slice_get, Option, Some, None, option_map, Ok, Err, Result, IfOk, IfSome, refl, sym, ap, ◌∙◌, subst, inl, inr, eqb-true, IsPermutation}
use Rattle.std.specs.FinMap.{get}
use Rattle.std.proofs.lemmas.List.{nil_from_length}
use Rattle.std.proofs.lemmas.List.Sorted.{length_permutation}
use Rattle.sqlite_value.specs.declared.value.Value.TheVariants.{Int}
use Rattle.sqlite_value.specs.Order.{Row, column}
use Rattle.sqlite_trees.specs.Tree.{IsAscending}
use Rattle.sqlite_rules.proofs.ListLemmas.{has_found}
use Rattle.sqlite_keyed.proofs.ListLemmas.{map-map, filter-map, filter_same, filter-filter, slice_get-filter, IsPermutation-filter}
use Rattle.sqlite.specs.State.{State, Shown}
use Rattle.sqlite.proofs.Callers.{one_permutation}
use Rattle.store_tables.specs.Rows.{Tables, has_key}
use Rattle.store_tables.proofs.AnswerLemmas.{cells_by_key}
use Rattle.store_tables.proofs.ReadLemmas.{answered}
use Rattle.store_tables.proofs.ListLemmas.{owner_key}
use Rattle.store_accounts.specs.declared.queue.QueuedMessage.{QueuedMessage}
use Rattle.store_tables.specs.Schema.{mail_schema}
use Rattle.store_tables.specs.QueueTable.{outgoing, outgoing_tree, queue_key, select_outgoing}
use Rattle.store_tables.proofs.SchemaFacts.{outgoing_listed}
use Rattle.store_tables.proofs.TextFacts.{by_two, queue_shown, select_outgoing_is, select_outgoing_plain}
use Rattle.store_tables.proofs.StatementLemmas.{outgoing_index, outgoing_agrees}
use Rattle.store_accounts.specs.Account.{Account, Accounts, row_with}
use Rattle.store_accounts.specs.QueueRows.{queue_row, outgoing_cells, HasOutgoingRow}
use Rattle.store_accounts.specs.Shows.{rows_of, IsShown, Presents}
use Rattle.store_accounts.proofs.AccountLemmas.{queue_is}
use Rattle.store_accounts.proofs.KeyLemmas.{key_owned}
use Rattle.store_accounts.proofs.NumberLemmas.{alone_at}
use Rattle.store_accounts.proofs.ReadLemmas.{at_user}

-- none, or one
unfoldable pub listed : {X : Type 0} → Option X → List X
listed None = []
listed (Some q) = q ∷ []

nothing : {X : Type 0} (xs : List X) → slice_get xs 0 ≡ None → xs ≡ []
nothing [] e = refl
nothing (x ∷ xs) e = absurd (let no = e in cc)

module _ {X : Type 0} (number : X → ℕ) (row : X → Row) where
  -- of numbers that rise one at most is this
  pub numbered : (id : ℕ) (xs : List X) → IsAscending (λ x y. number x < number y) xs → filter (λ x. number x == id) xs ≡ listed (find (λ x. number x == id) xs)
  unfolding listed
  numbered id xs rise = go (find (λ x. number x == id) xs) refl
    where
      go : (o : Option X) → find (λ x. number x == id) xs ≡ o → filter (λ x. number x == id) xs ≡ listed o
      go None is = nothing _ (slice_get-filter (λ x. number x == id) xs ∙ is)
      go (Some q) is =
          let found = has_found (λ x. number x == id) xs q is in
          let same : number q ≡ id = eqb-true (number q) id found.1 in
          ap (λ n. filter (λ x. number x == n) xs) (sym same) ∙ alone_at number row xs rise q found.0

-- a permutation of none or one
pub permuted : {X Y : Type 0} (f : X → Y) (o : Option X) (ys : List Y) → IsPermutation (map f (listed o)) ys → ys ≡ map f (listed o)
unfolding listed
permuted f None ys are = nil_from_length ys (length_permutation [] ys are)
permuted f (Some q) ys are = one_permutation (f q) ys are

-- the one row of the user with the number
own_row : (user : List ℕ) (id : ℕ) (own : Tables) (a : Account) → IsShown user own a → filter (has_key (queue_key user (pos id))) (own outgoing_tree) ≡ map (queue_row user) (listed (row_with id a.queue))
own_row user id own a s =
    let key = has_key (queue_key user (pos id)) in
    let one : filter key (map (queue_row user) a.queue) ≡ map (queue_row user) (listed (row_with id a.queue)) =
    filter-map key (queue_row user) a.queue ∙ ap (map (queue_row user)) (filter_same _ (λ q. q.id == id) (λ q. queue_is user id q) a.queue ∙ numbered (λ q. q.id) (queue_row user) id a.queue s.queue.rise) in
    permuted (queue_row user) (row_with id a.queue) _ (subst (λ l. IsPermutation l (filter key (own outgoing_tree))) one (IsPermutation-filter key _ _ s.queue.rows_are))

shown_cells : Row → Row
shown_cells c = column c 1 ∷ column c 2 ∷ column c 3 ∷ column c 4 ∷ column c 5 ∷ []

first_cells : (user : List ℕ) (o : Option QueuedMessage) → slice_get (map shown_cells (map (queue_row user) (listed o))) 0 ≡ option_map outgoing_cells o
unfolding listed shown_cells
first_cells user None = refl
first_cells user (Some q) = refl

module _ (old new : State) (rows : List Row) (accounts : Accounts) (p : Presents old.now accounts) (user : List ℕ) (id : ℤ) where
  pub outgoing_read : Shown select_outgoing (queue_key user id) old new rows → IfSome (get accounts user) (HasOutgoingRow id rows)
  unfolding shown_cells
  outgoing_read shown = at_user accounts user p.0 p.2 _ (λ a s n is.
      let key = queue_key user id in
      let found : rows ≡ map shown_cells (filter (has_key key) (p.0 outgoing_tree)) =
      cells_by_key mail_schema outgoing outgoing_listed outgoing_index (inr (inr (inr (inl refl)))) refl key (0 ∷ 1 ∷ []) (outgoing_agrees user id) old.now.trees p.1.fits (p.0 outgoing_tree) (p.1.each outgoing outgoing_listed) by_two key (λ n cells. refl)
      queue_shown shown_cells (λ n cells. refl) [] rows (answered mail_schema select_outgoing key old new p.1.is select_outgoing_plain.0 outgoing_tree by_two queue_shown [] _ select_outgoing_is select_outgoing_plain.1 rows shown) in
      let own = sym (filter-filter (has_key key) (has_key (owner_key user)) (key_owned user (Int id ∷ [])) (p.0 outgoing_tree)) in
      ap (λ l. slice_get l 0) (found ∙ ap (map shown_cells) (own ∙ ap (λ i. filter (has_key (queue_key user i)) (rows_of user p.0 outgoing_tree)) is ∙ own_row user n (rows_of user p.0) a s)) ∙ first_cells user (row_with n a.queue))
