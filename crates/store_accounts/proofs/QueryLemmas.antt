-- What each query finds, and that it changes nothing.
use Rattle.std.proofs.Common.{◌≡◌, ℕ, List, [], ◌∷◌, map, filter, Ok, Err, Result, Vec, Option, Some, None, IfOk, IfErr, OnOk, IsTrue, refl, sym, subst, inl, inr}
use Rattle.std.specs.declared.alloc.Global.{Global}
use Rattle.sqlite_value.specs.Order.{Row, column}
use Rattle.sqlite_sql.specs.Term.{col}
use Rattle.sqlite_schema.specs.declared.command.Returning.{Returning}
use Rattle.sqlite.specs.Listing.{understood}
use Rattle.sqlite.specs.Clock.{timed}
use Rattle.sqlite.specs.declared.error.Error.{Error}
use Rattle.sqlite.specs.State.{State, HasCleanDisk, Survives, CommitsShowing, Shown, ShowsRows, FailsToQuery, FailsToShow, IsNotRun}
use Rattle.sqlite.proofs.Callers.{IsPlain, never_commits}
use Rattle.sqlite.proofs.StateLemmas.{survives_weaker}
use Rattle.store_tables.specs.Rows.{Tables, HoldsTables, has_key}
use Rattle.store_tables.proofs.AnswerLemmas.{cells_by_key}
use Rattle.store_tables.proofs.ReadLemmas.{shown_same, fails_same, answered}
use Rattle.store_tables.proofs.ListLemmas.{owner_key, pair_key}
use Rattle.store_tables.specs.Schema.{mail_schema}
use Rattle.store_tables.specs.Connection.{StaysSame}
use Rattle.store_tables.specs.AccountTable.{account, select_account, select_counters, account_tree}
use Rattle.store_accounts.specs.AccountRows.{shown_account, shown_counters}
use Rattle.store_tables.specs.ScriptTable.{script, select_script, scripts_tree, text_column}
use Rattle.store_accounts.specs.Shows.{rows_of}
use Rattle.store_tables.proofs.VersionLemmas.{same_unchanged, same_undone}
use Rattle.store_tables.proofs.TextFacts.{by_one, by_two, account_shown, counters_shown, select_account_is, select_account_plain, select_counters_is, select_counters_plain, select_script_is, select_script_plain}
use Rattle.store_tables.proofs.StatementLemmas.{account_index, script_index, account_agrees, script_agrees}
use Rattle.store_accounts.specs.Promises.{HasOurTables}

module _ (sql : List ℕ) (params : Row) (old new : State) (plain : IsPlain (understood mail_schema sql)) where
  pub query_same : (r : Result (Vec Row Global) Error) → (IsTrue old.is_open → old.now ≡ old.committed) → (HasCleanDisk new → IfOk r (λ rows. Shown sql params old new rows.items))
      → (HasCleanDisk new → IfErr r (FailsToQuery sql params old new)) → HasCleanDisk new → HasOurTables old.now → StaysSame old new
  query_same (Ok rows) settled ok err clean h = same_unchanged old new (shown_same mail_schema sql params old new h.1.is plain rows.items (ok clean))
  query_same (Err e) settled ok err clean h = elim (fails_same mail_schema sql params old new h.1.is plain e (err clean)) [ inl same ↦ same_unchanged old new same | inr undone ↦ same_undone old new settled undone ]

  pub query_quiet : Survives old new (CommitsShowing sql params old) → Survives old new (λ _. HasOurTables old.now → ⊥)
  query_quiet survives = survives_weaker old new _ (λ _. HasOurTables old.now → ⊥) (λ clean db commits h. never_commits sql params old db (subst (λ s. IsPlain (understood s sql)) (sym h.1.is) plain) commits) survives

-- rows are shown over an open connection alone, which stays open
open_shown : (sql : List ℕ) (params : Row) (old new : State) (rows : List Row) → Shown sql params old new rows → IsTrue old.is_open × IsTrue new.is_open
unfolding Shown
open_shown sql params old new rows h = go h.0.returning h.2
  where
    go : (what : Option Returning) → ShowsRows old new sql h.0 (timed params h.0.formats h.1.now) rows what → IsTrue old.is_open × IsTrue new.is_open
    go None k = (k.3.0.was_open, k.3.0.is_open)
    go (Some what) k = (k.1.shown.was_open, k.1.shown.is_open)

-- a query that fails opens nothing
open_failed : (sql : List ℕ) (params : Row) (old new : State) (e : Error) → FailsToQuery sql params old new e → IsTrue new.is_open → IsTrue old.is_open
unfolding FailsToQuery IsNotRun
open_failed sql params old new e (inl (inl not_run)) is_open = not_run.1.0.was_open
open_failed sql params old new e (inl (inr fails)) is_open = fails.3.was_open is_open
open_failed sql params old new e (inr h) is_open = go h.0.returning h.2
  where
    go : (what : Option Returning) → FailsToShow old new sql h.0 (timed params h.0.formats h.1.now) e what → IsTrue old.is_open
    go None k = k.3.0.was_open
    go (Some what) (inl k) = k.1.0.was_open
    go (Some what) (inr k) = k.3.was_open is_open

pub stays_shut : (sql : List ℕ) (params : Row) (old new : State) (r : Result (Vec Row Global) Error) → (HasCleanDisk new → IfOk r (λ rows. Shown sql params old new rows.items))
    → (HasCleanDisk new → IfErr r (FailsToQuery sql params old new)) → HasCleanDisk new → (IsTrue new.is_open → IsTrue old.is_open) × OnOk r (IsTrue new.is_open)
stays_shut sql params old new (Ok rows) ok err clean = let shown = open_shown sql params old new rows.items (ok clean) in (λ is_open. shown.0, shown.1)
stays_shut sql params old new (Err e) ok err clean = (open_failed sql params old new e (err clean), tt)

module _ (old new : State) (rows : List Row) (tables : Tables) (h : HoldsTables mail_schema old.now tables) where
  pub account_found : (name : List ℕ) → Shown select_account (owner_key name) old new rows → rows ≡ map shown_account (rows_of name tables account_tree)
  account_found name shown =
      cells_by_key mail_schema account (inr (inl refl)) account_index (inr (inl refl)) refl (owner_key name) (0 ∷ []) (account_agrees name) old.now.trees h.fits (tables account_tree) (h.each account (inr (inl refl)))
      by_one (owner_key name) (λ n cells. refl) account_shown shown_account (λ n cells. refl) [] rows
      (answered mail_schema select_account (owner_key name) old new h.is select_account_plain.0 account_tree by_one account_shown [] _ select_account_is select_account_plain.1 rows shown)

  pub counters_found : (name : List ℕ) → Shown select_counters (owner_key name) old new rows → rows ≡ map shown_counters (rows_of name tables account_tree)
  counters_found name shown =
      cells_by_key mail_schema account (inr (inl refl)) account_index (inr (inl refl)) refl (owner_key name) (0 ∷ []) (account_agrees name) old.now.trees h.fits (tables account_tree) (h.each account (inr (inl refl)))
      by_one (owner_key name) (λ n cells. refl) counters_shown shown_counters (λ n cells. refl) [] rows
      (answered mail_schema select_counters (owner_key name) old new h.is select_counters_plain.0 account_tree by_one counters_shown [] _ select_counters_is select_counters_plain.1 rows shown)

  pub script_found : (owner name : List ℕ) → Shown select_script (pair_key owner name) old new rows → rows ≡ map (λ c. column c text_column ∷ []) (filter (has_key (pair_key owner name)) (tables scripts_tree))
  script_found owner name shown =
      cells_by_key mail_schema script (inr (inr (inl refl))) script_index (inr (inr (inl refl))) refl (pair_key owner name) (0 ∷ 1 ∷ []) (script_agrees owner name) old.now.trees h.fits (tables scripts_tree)
      (h.each script (inr (inr (inl refl)))) by_two (pair_key owner name) (λ n cells. refl) (col 1 3 ∷ []) (λ c. column c text_column ∷ []) (λ n cells. refl) [] rows
      (answered mail_schema select_script (pair_key owner name) old new h.is select_script_plain.0 scripts_tree by_two (col 1 3 ∷ []) [] _ select_script_is select_script_plain.1 rows shown)

-- under a clause on Ok
pub if_shown : (r : Result (Vec Row Global) Error) (P Q : List Row → Type 0) → ((rows : List Row) → P rows → Q rows) → IfOk r (λ rows. P rows.items) → IfOk r (λ rows. Q rows.items)
if_shown (Err e) P Q f h = tt
if_shown (Ok rows) P Q f h = f rows.items h
