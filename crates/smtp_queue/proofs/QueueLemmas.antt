-- The rows of accounts, and one that leaves.
use Rattle.std.proofs.Common.{◌≡◌, ◌==◌, ℕ, not, Bool, true, false, cond, List, [], ◌∷◌, filter, Option, Some, None, option_map, Result, Ok, Err, IfOk, IfSome, IsTrue, refl, sym, ◌∙◌, ap, subst, eqb-true}
use Rattle.std.specs.FinMap.{get}
use Rattle.sqlite_trees.specs.declared.store.Store.{Ghosts}
use Rattle.sqlite.specs.Effect.{Database}
use Rattle.sqlite.specs.Held.{Held}
use Rattle.sqlite_typed.proofs.TestLemmas.{bytes_eq_refl}
use Rattle.store_accounts.specs.Account.{Account, Accounts, is_closed_account, open_one, open_account_of, row_with, with_user, takes_out}
use Rattle.store_accounts.specs.declared.next.QueueKey.{QueueKey}
use Rattle.store_accounts.specs.declared.queue.QueuedMessage.{QueuedMessage}
use Rattle.store_engine.specs.AccountEvents.{TakesQueueRow, TakesFromQueue}
use Rattle.store_engine.specs.OwnActs.{is_user}
use Rattle.store_engine.proofs.AloneLemmas.{same_name, changed_own, changed_other}
use Rattle.store_engine.proofs.TakingLemmas.{row_numbered}
use Rattle.smtp_send.specs.Rows as queue
use Rattle.smtp_send.specs.Rows.{Rows, IsThere, TakesOut}
use Rattle.smtp_send.specs.declared.queue.DueMessage.{DueMessage}
use Rattle.smtp_send.specs.declared.queue.TakenOut.{TakenOut}
use Rattle.smtp_send.specs.declared.queue.TakenOut.TheVariants.{Removed, Gone, Changed}
use Rattle.store_lock.specs.declared.keeper.StoreUnavailable.{StoreUnavailable}
use Rattle.smtp_queue.specs.DueRows.{HasRow, IsRowGone, IsDueRowFound, TakesSent}
use Rattle.smtp_queue.specs.Queues.{content, row_in, rows_in, IsDueRowIn, QueueShows, ShowsRows, QueueFinds, QueueRemoves, TurnsShown, QueueStillShows, IsRowTold, store_and_keeper}
use Rattle.smtp_queue.specs.declared.due_row.DueRow.{DueRow}
use Rattle.smtp_queue.specs.Waits as wait
use Rattle.smtp_queue.specs.Waits.{row_key}
use Rattle.smtp_queue.specs.declared.waits.RowWaits.{RowWaits}

-- ---- a list without a row

abbrev without : ℕ → List QueuedMessage → List QueuedMessage
without id rows = filter (λ out. not (out.id == id)) rows

gone_row : (id : ℕ) (rows : List QueuedMessage) → row_with id (without id rows) ≡ None
gone_row id [] = refl
gone_row id (row ∷ rows) = go (row.id == id) refl (gone_row id rows)
  where
    go : (b : Bool) → (row.id == id) ≡ b → row_with id (without id rows) ≡ None → row_with id (cond (not b) (row ∷ without id rows) (without id rows)) ≡ None
    go true is later = later
    go false is later = ap (λ t. cond t (Some row) (row_with id (without id rows))) is ∙ later

other_row : (id other : ℕ) → (other ≡ id → ⊥) → (rows : List QueuedMessage) → row_with other (without id rows) ≡ row_with other rows
other_row id other differs [] = refl
other_row id other differs (row ∷ rows) = go (row.id == id) refl (other_row id other differs rows)
  where
    not_it : (b : Bool) → (row.id == other) ≡ b → (row.id == id) ≡ true → b ≡ false
    not_it true same is = absurd (differs (sym (eqb-true row.id other same) ∙ eqb-true row.id id is))
    not_it false same is = refl

    go : (b : Bool) → (row.id == id) ≡ b → row_with other (without id rows) ≡ row_with other rows
        → row_with other (cond (not b) (row ∷ without id rows) (without id rows)) ≡ cond (row.id == other) (Some row) (row_with other rows)
    go true is later = later ∙ sym (ap (λ t. cond t (Some row) (row_with other rows)) (not_it (row.id == other) refl is))
    go false is later = ap (λ r. cond (row.id == other) (Some row) r) later

-- ---- the rows of accounts without one

module _ (waits : RowWaits) (now : ℕ) (accounts : Accounts) (at : QueueKey) where
  abbrev Later : Accounts
  Later = with_user accounts at.user (takes_out at.id)

  abbrev Rows_in : Accounts → Rows
  Rows_in all = rows_in waits now all

  abbrev due_at : List ℕ → ℕ → Bool
  due_at user id = wait.is_row_due waits now (row_key user id)

  still_open : (o : Option Account) → open_one (option_map (takes_out at.id) o) ≡ option_map (takes_out at.id) (open_one o)
  still_open None = refl
  still_open (Some a) = go (is_closed_account a)
    where
      go : (closed : Bool) → cond closed None (Some (takes_out at.id a)) ≡ option_map (takes_out at.id) (cond closed None (Some a))
      go true = refl
      go false = refl

  own_then : open_account_of Later at.user ≡ option_map (takes_out at.id) (open_account_of accounts at.user)
  own_then = ap open_one (changed_own accounts at.user (takes_out at.id) (bytes_eq_refl at.user)) ∙ still_open (get accounts at.user)

  gone_in : (o : Option Account) (due : Bool) → row_in (option_map (takes_out at.id) o) at.id due ≡ None
  gone_in None due = refl
  gone_in (Some a) due = ap (option_map (content due)) (gone_row at.id a.queue)

  kept_in : (o : Option Account) (number : ℕ) (due : Bool) → (number ≡ at.id → ⊥) → row_in (option_map (takes_out at.id) o) number due ≡ row_in o number due
  kept_in None number due differs = refl
  kept_in (Some a) number due differs = ap (option_map (content due)) (other_row at.id number differs a.queue)

  left_rows : TakesOut at.user at.id (Rows_in accounts) (Rows_in Later)
  left_rows = record {
    gone = ap (λ o. row_in o at.id (due_at at.user at.id)) own_then ∙ gone_in (open_account_of accounts at.user) (due_at at.user at.id);
    others = λ other number differs. by other number differs (is_user other at.user) refl;
  }
    where
      by : (other : List ℕ) (number : ℕ) → (other ≡ at.user → number ≡ at.id → ⊥) → (b : Bool) → is_user other at.user ≡ b → Rows_in Later other number ≡ Rows_in accounts other number
      by other number differs true is =
          let same : other ≡ at.user = same_name other at.user is in
          ap (λ u. Rows_in Later u number) same ∙ ap (λ o. row_in o number (due_at at.user number)) own_then ∙ kept_in (open_account_of accounts at.user) number (due_at at.user number) (differs same)
          ∙ ap (λ u. Rows_in accounts u number) (sym same)
      by other number differs false is = ap (λ o. row_in (open_one o) number (due_at other number)) (changed_other accounts other at.user (takes_out at.id) is)

  -- it stood there, and the event took it
  gone_rows : (later : Accounts) (row : QueuedMessage) → HasRow accounts at row → IsRowGone at accounts later → TakesOut at.user at.id (Rows_in accounts) (Rows_in later)
  gone_rows later row has gone =
      let open_row : TakesFromQueue accounts at.user at.id (Some has.0) gone.0 later = subst (λ o. TakesFromQueue accounts at.user at.id o gone.0 later) has.1 gone.1 in
      let takes : TakesQueueRow accounts at.user (Some row) gone.0 later = subst (λ o. TakesQueueRow accounts at.user o gone.0 later) has.2 open_row in
      let is : later ≡ Later = takes.changed ∙ ap (λ n. with_user accounts at.user (takes_out n)) (row_numbered at.id has.0.queue row has.2) in
      subst (λ (x : Accounts). TakesOut at.user at.id (Rows_in accounts) (Rows_in x)) (sym is) left_rows

  -- what stands there as a row of the accounts
  row_here : (row : QueuedMessage) → HasRow accounts at row → Rows_in accounts at.user at.id ≡ Some (content (due_at at.user at.id) row)
  row_here row has = ap (λ o. row_in o at.id (due_at at.user at.id)) has.1 ∙ ap (option_map (content (due_at at.user at.id))) has.2

  none_here : ((row : QueuedMessage) → HasRow accounts at row → ⊥) → Rows_in accounts at.user at.id ≡ None
  none_here none = by_account (open_account_of accounts at.user) refl
    where
      by_row : (a : Account) → open_account_of accounts at.user ≡ Some a → (o : Option QueuedMessage) → row_with at.id a.queue ≡ o → option_map (content (due_at at.user at.id)) o ≡ None
      by_row a is_open None is = refl
      by_row a is_open (Some row) is = absurd (none row (a, is_open, is))

      by_account : (o : Option Account) → open_account_of accounts at.user ≡ o → row_in o at.id (due_at at.user at.id) ≡ None
      by_account None is = refl
      by_account (Some a) is = by_row a is (row_with at.id a.queue) refl

  -- what became of a row that was sent, as one of the accounts' rows
  module _ (sent : DueMessage) (user_is : at.user ≡ sent.user) (id_is : at.id ≡ sent.id) where
    placed : (P : List ℕ → ℕ → Type 0) → P at.user at.id → P sent.user sent.id
    placed P here = subst (λ u. P u sent.id) user_is (subst (P at.user) id_is here)

    taken_rows : (taken : TakenOut) (later : Accounts) → TakesSent at sent taken accounts later → queue.RowTakenOut sent taken (Rows_in accounts) (Rows_in later)
    taken_rows Removed later ((row, has, octets), gone) = (
      (
        content (due_at at.user at.id) row,
        placed (λ u n. Rows_in accounts u n ≡ Some (content (due_at at.user at.id) row)) (row_here row has),
        record { sender = octets.sender; target = octets.target; message = octets.message },
      ),
      placed (λ u n. TakesOut u n (Rows_in accounts) (Rows_in later)) (gone_rows later row has gone),
    )
    taken_rows Gone later (none, same) = (placed (λ u n. Rows_in accounts u n ≡ None) (none_here none), ap Rows_in same)
    taken_rows Changed later ((row, has, differs), same) = (
      (
        content (due_at at.user at.id) row,
        placed (λ u n. Rows_in accounts u n ≡ Some (content (due_at at.user at.id) row)) (row_here row has),
        λ octets. differs (record { sender = octets.sender; target = octets.target; message = octets.message }),
      ),
      ap Rows_in same,
    )

-- ---- what is told

pub told_row : (due_row : DueRow) (row : DueMessage) → row.user ≡ due_row.place.user → row.id ≡ due_row.place.id → row.sender ≡ due_row.row.sender → row.target ≡ due_row.row.target → row.message ≡ due_row.row.message → IsRowTold (Some due_row) (Some row)
told_row due_row row user id sender target message waits now accounts has =
    let due = wait.is_row_due waits now (row_key due_row.place.user due_row.place.id) in
    let own : rows_in waits now accounts due_row.place.user due_row.place.id ≡ Some (content due due_row.row) =
    ap (λ o. row_in o due_row.place.id due) has.0.1 ∙ ap (option_map (content due)) has.0.2 in
    let there : rows_in waits now accounts row.user row.id ≡ Some (content due due_row.row) =
    ap (λ u. rows_in waits now accounts u row.id) user ∙ ap (rows_in waits now accounts due_row.place.user) id ∙ own in
    there ∙ ap Some (λ i. record { sender = sym sender i; target = sym target i; message = sym message i; is_due = has.1 i })

-- ---- over tables

found_in : (waits : RowWaits) (now : ℕ) (at : QueueKey) (accounts : Accounts) (found : Option DueRow) → IsDueRowFound waits now at accounts found → IsDueRowIn waits now accounts found
found_in waits now at accounts None none = tt
found_in waits now at accounts (Some due_row) next = (next.row, next.due)

module _ {S : Type 0} (g : Ghosts S) (tells : Bool) (waits : RowWaits) (now : ℕ) {K : Type 0} (holds : K → Database) (store : Option (Held S)) (keeper : K) (later : Option (Held S)) (after : K) where
  abbrev Had : Rows → Type 0
  Had rows = ShowsRows g tells waits now (holds keeper) store rows

  abbrev Has : Rows → Type 0
  Has rows = ShowsRows g tells waits now (holds after) later rows

  -- no account changed
  pub rows_still : QueueStillShows g tells holds (store_and_keeper store keeper) (store_and_keeper later after) → (rows : Rows) → Had rows → Has rows
  rows_still still rows shows = record { told = shows.told; accounts = shows.accounts; shown = still shows.told shows.accounts shows.shown; are = shows.are }

  -- a row was looked for
  module _ (at : QueueKey) (r : Result (Option DueRow) StoreUnavailable) (finds : TurnsShown g tells holds (QueueFinds waits now at r) (store_and_keeper store keeper) (store_and_keeper later after)) where
    pub rows_found : QueueStillShows g tells holds (store_and_keeper store keeper) (store_and_keeper later after)
    rows_found told accounts shown = let h = finds told accounts shown in subst (QueueShows g (holds after) later) h.1.0 h.2

    pub found_there : (found : Option DueRow) → r ≡ Ok found → (row : Option DueMessage) → IsRowTold found row → IfSome row (λ row. (rows : Rows) → Had rows → IsThere row rows)
    found_there found is None say = tt
    found_there found is (Some row) say = λ rows shows.
        let h = finds shows.told shows.accounts shows.shown in
        let there : IsDueRowFound waits now at shows.accounts found = subst (λ o. IfOk o (IsDueRowFound waits now at shows.accounts)) is h.1.1 in
        shows.are row.user row.id ∙ say waits now shows.accounts (found_in waits now at shows.accounts found there)

  -- a row was taken out, or not
  module _ (at : QueueKey) (sent : DueMessage) (r : Result TakenOut StoreUnavailable) (takes : TurnsShown g tells holds (QueueRemoves at sent r) (store_and_keeper store keeper) (store_and_keeper later after)) where
    pub rows_kept : (denial : StoreUnavailable) → r ≡ Err denial → QueueStillShows g tells holds (store_and_keeper store keeper) (store_and_keeper later after)
    rows_kept denial is told accounts shown =
        let h = takes told accounts shown in
        let same : h.0 ≡ accounts = subst (λ o. QueueRemoves at sent o accounts h.0) is h.1 in
        subst (QueueShows g (holds after) later) same h.2

    pub rows_taken : at.user ≡ sent.user → at.id ≡ sent.id → (taken : TakenOut) → r ≡ Ok taken → (rows : Rows) → Had rows → (next : Rows) × queue.RowTakenOut sent taken rows next × Has next
    rows_taken user_is id_is taken is rows shows =
        let h = takes shows.told shows.accounts shows.shown in
        let same : rows ≡ rows_in waits now shows.accounts = (λ i user id. shows.are user id i) in (
          rows_in waits now h.0,
          subst (λ (all : Rows). queue.RowTakenOut sent taken all (rows_in waits now h.0)) (sym same)
              (taken_rows waits now shows.accounts at sent user_is id_is taken h.0 (subst (λ o. QueueRemoves at sent o shows.accounts h.0) is h.1)),
          record { told = shows.told; accounts = h.0; shown = h.2; are = λ u n. refl },
        )
