-- A query whose rows are read in turn: what has been read so far, and what is answered.
use Rattle.std.proofs.Common.{◌≡◌, ◌⊎◌, ℕ, Bool, not, false, List, [], ◌∷◌, ◌++◌, map, Option, Some, None, Ok, Err, Result, OnOk, IfOk, IfErr, IfSome, IsTrue, refl, sym, ap, ◌∙◌, subst, inl, inr}
use Rattle.std.proofs.lemmas.List.{map-append}
use Rattle.sqlite_value.specs.Order.{Row}
use Rattle.sqlite_schema.specs.declared.command.Returning.{Returning}
use Rattle.sqlite_trees.specs.declared.store.Store.{Ghosts}
use Rattle.sqlite.specs.Clock.{timed}
use Rattle.sqlite.specs.Listing.{understood, reads_listing, IsSourceOf}
use Rattle.sqlite.specs.Effect.{Database}
use Rattle.sqlite.specs.declared.error.Error.{Error}
use Rattle.sqlite.specs.Held.{Held, state}
use Rattle.sqlite.specs.State.{State, HasCleanDisk, Survives, Shown, ShowsRows, CommitsShowing, IsUnchanged, Fails}
use Rattle.sqlite.specs.Given.{HasGiven, HasBegun, Advances, IsRefused}
use Rattle.sqlite.proofs.Callers.{IsPlain, begun_plain, unchanged_then}
use Rattle.sqlite.proofs.StateLemmas.{survives_then}
use Rattle.store_tables.specs.Rows.{Tables, HoldsTables}
use Rattle.store_tables.specs.Schema.{mail_schema}
use Rattle.store_tables.specs.Connection.{StaysSame, Queries}
use Rattle.store_tables.proofs.VersionLemmas.{same_unchanged, same_undone}
use Rattle.store_tables.proofs.WriteLemmas.{clean_before}
use Rattle.store_accounts.specs.declared.refusal.Refusal.{Refusal}
use Rattle.store_accounts.specs.Refusals.{IsTransient}
use Rattle.store_accounts.specs.Account.{Account, Accounts}
use Rattle.store_accounts.specs.Shows.{rows_of, Presents}
use Rattle.store_accounts.specs.Promises.{HasOurTables, FindsAmong, ReadsEntered}
use Rattle.store_accounts.specs.EachRow.{AreOfRows, ReadsEach}
use Rattle.std.specs.FinMap.{get}
use Rattle.store_accounts.proofs.QueryLemmas.{query_same, query_quiet, stays_shut}
use Rattle.store_accounts.proofs.KeepLemmas.{none_ok, none_if}

-- rows that are shown after all stayed as it was are shown from the start
shown_since : (sql : List ℕ) (params : Row) (old mid new : State) (rows : List Row) → IsPlain (understood old.now.schema sql) → IsUnchanged old mid → Shown sql params mid new rows → Shown sql params old new rows
unfolding Shown
shown_since sql params old mid new rows plain same h =
    let is = subst (λ (d : Database). understood d.schema sql ≡ Ok h.0) same.0.now_is h.1.is in
    let bare = (subst IsPlain is plain).0 in
    let full = timed params h.0.formats h.1.now in
    let it = subst (ShowsRows mid new sql h.0 full rows) bare h.2 in
    let source = subst (λ (d : Database). IsSourceOf (reads_listing d.schema sql) d it.0) same.0.now_is it.1 in
    (h.0, record { is = is; whole = h.1.whole; given = h.1.given; now = h.1.now }, subst (ShowsRows old new sql h.0 full rows) (sym bare) (it.0, source, it.2, unchanged_then old mid new same it.3))

-- rows are shown over an open connection alone
open_shown : (sql : List ℕ) (params : Row) (old new : State) (rows : List Row) → Shown sql params old new rows → IsTrue old.is_open
unfolding Shown
open_shown sql params old new rows h = go h.0.returning h.2
  where
    go : (what : Option Returning) → ShowsRows old new sql h.0 (timed params h.0.formats h.1.now) rows what → IsTrue old.is_open
    go None k = k.3.0.was_open
    go (Some what) k = k.1.shown.was_open

module _ {S X : Type 0} (g : Ghosts S) (sql : List ℕ) (params : Row) (shows : X → Row) (cells : Row → Row) (old : Held S) where
  -- these values are of the rows that the connection has given
  abbrev pub HasRead : Held S → List X → Type 0
  HasRead now all = (given : List Row) × HasGiven g sql params now given × IsUnchanged (state g old) (state g now) × (map shows all ≡ map cells given)

  -- a query is under way
  pub record IsUnderWay (now : Held S) (all : List X) : Type 0 where
    pub ended : now.in_transaction ≡ false
    pub survives : Survives (state g old) (state g now) (CommitsShowing sql params (state g old))
    pub was_open : HasCleanDisk (state g now) → IsTrue (state g old).is_open
    pub read : HasCleanDisk (state g now) → HasOurTables (state g old).now → HasRead now all

module _ {S X : Type 0} (g : Ghosts S) (sql : List ℕ) (params : Row) (shows : X → Row) (cells : Row → Row) (old : Held S) (plain : IsPlain (understood mail_schema sql)) where
  abbrev Under : Held S → List X → Type 0
  Under = IsUnderWay g sql params shows cells old

  plain_at : HasOurTables (state g old).now → IsPlain (understood (state g old).now.schema sql)
  plain_at h = subst (λ s. IsPlain (understood s sql)) (sym h.1.is) plain

  opened : (now : Held S) → HasBegun g sql params old now → IsTrue (state g old).is_open
  opened now (inl h) = h.1.0.was_open
  opened now (inr h) = open_shown sql params (state g old) (state g now) _ h.1

  pub begun : (now : Held S) → now.in_transaction ≡ false → Survives (state g old) (state g now) (CommitsShowing sql params (state g old)) → (HasCleanDisk (state g now) → HasBegun g sql params old now) → Under now []
  begun now ended survives begins = record {
    ended = ended;
    survives = survives;
    was_open = λ clean. opened now (begins clean);
    read = λ clean h. let fresh = begun_plain g sql params old now (plain_at h) (begins clean) in ([], fresh.0, fresh.1, refl);
  }

  later : (mid now : Held S) → Survives (state g old) (state g mid) (CommitsShowing sql params (state g old)) → Survives (state g mid) (state g now) (λ _. ⊥) → Survives (state g old) (state g now) (CommitsShowing sql params (state g old))
  later mid now early late = survives_then (state g old) (state g mid) (state g now) _ (λ _. ⊥) _ (λ clean db commits. commits) (λ clean db none. absurd none) early late

  -- one row more
  module _ (mid now : Held S) (all : List X) (under : Under mid all) (survives : Survives (state g mid) (state g now) (λ _. ⊥)) (ended : now.in_transaction ≡ false) where
    before : HasCleanDisk (state g now) → HasCleanDisk (state g mid)
    before = clean_before (state g mid) (state g now) _ survives

    pub advanced : (row : Row) (x : X) → (HasCleanDisk (state g now) → Advances g mid now (Some row)) → (HasCleanDisk (state g now) → IsUnchanged (state g mid) (state g now)) → shows x ≡ cells row → Under now (all ++ x ∷ [])
    advanced row x gives same shown = record {
      ended = ended;
      survives = later mid now under.survives survives;
      was_open = λ clean. under.was_open (before clean);
      read = λ clean h.
          let so_far = under.read (before clean) h in (
            so_far.0 ++ row ∷ [],
            gives clean sql params so_far.0 so_far.1,
            unchanged_then (state g old) (state g mid) (state g now) so_far.2 (same clean),
            map-append shows all (x ∷ []) ∙ ap (λ l. l ++ shows x ∷ []) so_far.3 ∙ ap (λ v. map cells so_far.0 ++ v ∷ []) shown ∙ sym (map-append cells so_far.0 (row ∷ [])),
          );
    }

    -- the answer, once no row is left
    pub read_whole : (HasCleanDisk (state g now) → Advances g mid now None) → (HasCleanDisk (state g now) → IsUnchanged (state g mid) (state g now)) → Queries g (ReadsEach shows cells sql params) old now (Ok all)
    read_whole gives same = record {
      ended = ended;
      limit = (later mid now under.survives survives).limit;
      finds = record {
        found = λ clean h. let so_far = under.read (before clean) h in (so_far.0, shown_since sql params (state g old) (state g mid) (state g now) so_far.0 (plain_at h) so_far.2 (gives clean sql params so_far.0 so_far.1), so_far.3);
        keeps = record {
          same = λ clean h. let so_far = under.read (before clean) h in same_unchanged (state g old) (state g now) (unchanged_then (state g old) (state g mid) (state g now) so_far.2 (same clean));
          live = λ clean. (same clean).0.is_open;
          shut = λ clean is_open. under.was_open (before clean);
          crash = query_quiet sql params (state g old) (state g now) plain (later mid now under.survives survives);
        };
        named = tt;
      };
    }

  -- a refusal
  module _ (now : Held S) (r : Result (List X) Refusal) (none : OnOk r ⊥) (named : IfErr r IsTransient) where
    ends : now.in_transaction ≡ false → Survives (state g old) (state g now) (CommitsShowing sql params (state g old)) → (HasCleanDisk (state g now) → IsTrue (state g now).is_open → IsTrue (state g old).is_open)
        → (HasCleanDisk (state g now) → HasOurTables (state g old).now → StaysSame (state g old) (state g now)) → Queries g (ReadsEach shows cells sql params) old now r
    ends ended survives shut same = record {
      ended = ended;
      limit = survives.limit;
      finds = record {
        found = λ clean h. none_if r (AreOfRows shows cells sql params (state g old) (state g now)) none;
        keeps = record { same = same; live = λ clean. none_ok r (IsTrue (state g now).is_open) none; shut = shut; crash = query_quiet sql params (state g old) (state g now) plain survives };
        named = named;
      };
    }

    -- of the query itself
    pub refused : {Y : Type 0} (e : Error) → old.in_transaction ≡ false → (IsTrue (state g old).is_open → (state g old).now ≡ (state g old).committed) → IsRefused g {X = Y} sql params old (Err e) now → Queries g (ReadsEach shows cells sql params) old now r
    refused e outside settled h =
        ends (h.mode outside) h.survives (λ clean. (stays_shut sql params (state g old) (state g now) (Err e) (λ _. tt) h.err clean).0) (query_same sql params (state g old) (state g now) plain (Err e) settled (λ _. tt) h.err)

    -- of a row that could not be read, or for memory
    pub stopped : (all : List X) → Under now all → Queries g (ReadsEach shows cells sql params) old now r
    stopped all under = ends under.ended under.survives (λ clean is_open. under.was_open clean) (λ clean h. same_unchanged (state g old) (state g now) (under.read clean h).2)

    -- of a row that was reached
    pub passed_over : (mid : Held S) (all : List X) → Under mid all → Survives (state g mid) (state g now) (λ _. ⊥) → now.in_transaction ≡ false → (HasCleanDisk (state g now) → IsUnchanged (state g mid) (state g now))
        → Queries g (ReadsEach shows cells sql params) old now r
    passed_over mid all under survives ended same =
        let before = clean_before (state g mid) (state g now) (λ _. ⊥) survives in
        ends ended (later mid now under.survives survives) (λ clean is_open. under.was_open (before clean))
        (λ clean h. same_unchanged (state g old) (state g now) (unchanged_then (state g old) (state g mid) (state g now) (under.read (before clean) h).2 (same clean)))

    -- of the next row
    pub failed : (mid : Held S) (all : List X) (e : Error) → (IsTrue (state g old).is_open → (state g old).now ≡ (state g old).committed) → Under mid all → Survives (state g mid) (state g now) (λ _. ⊥) → now.in_transaction ≡ false
        → (HasCleanDisk (state g now) → Fails (state g mid) (state g now) ⊥ e ⊎ IsUnchanged (state g mid) (state g now)) → Queries g (ReadsEach shows cells sql params) old now r
    failed mid all e settled under survives ended kept =
        let before = clean_before (state g mid) (state g now) (λ _. ⊥) survives in
        ends ended (later mid now under.survives survives) (λ clean is_open. under.was_open (before clean)) (λ clean h.
        let same = (under.read (before clean) h).2 in
        let late : StaysSame (state g mid) (state g now) = elim (kept clean) [
          | inl fails ↦ same_undone (state g mid) (state g now) (λ is_open. same.0.now_is ∙ settled same.0.was_open ∙ sym same.0.committed_is) fails.3
          | inr still ↦ same_unchanged (state g mid) (state g now) still
        ] in
        record { now_is = λ o. late.now_is o ∙ same.0.now_is; committed_is = λ o. late.committed_is o ∙ same.0.committed_is })

-- outside a transaction what is seen is what was committed
pub seen_committed : {S : Type 0} (g : Ghosts S) (old : Held S) (says : Bool) → says ≡ not old.in_transaction → (IsTrue says → IsTrue (state g old).is_open → (state g old).now ≡ (state g old).committed) → old.in_transaction ≡ false
    → IsTrue (state g old).is_open → (state g old).now ≡ (state g old).committed
seen_committed g old says is settled outside = settled (is ∙ ap not outside)

some_told : {P Q : Account → Type 0} (o : Option Account) → ((a : Account) → P a → Q a) → IfSome o P → IfSome o Q
some_told None f h = tt
some_told (Some a) f h = f a h

-- what is read of an account that was entered, where the rows tell that
pub reads_entered : {S X : Type 0} (g : Ghosts S) (sql : List ℕ) (params : Row) (shows : X → Row) (cells : Row → Row) (old new : Held S) (r : Result (List X) Refusal) (user : List ℕ) (Part : List Row → Account → Type 0)
    (Q : List X → Account → Type 0) → ((rows : List Row) (accounts : Accounts) → Presents (state g old).now accounts → Shown sql params (state g old) (state g new) rows → IfSome (get accounts user) (Part rows))
    → ((rows : List Row) (all : List X) (a : Account) → map shows all ≡ map cells rows → Part rows a → Q all a) → Queries g (ReadsEach shows cells sql params) old new r → Queries g (ReadsEntered user Q) old new r
reads_entered {X = X} g sql params shows cells old new r user Part Q tells made h = record {
  ended = h.ended;
  limit = h.limit;
  finds = record { found = λ clean accounts p. go r accounts p (h.finds.found clean (p.0, p.1)); keeps = h.finds.keeps; named = h.finds.named };
}
  where
    go : (o : Result (List X) Refusal) (accounts : Accounts) → Presents (state g old).now accounts → IfOk o (AreOfRows shows cells sql params (state g old) (state g new)) → IfOk o (λ all. IfSome (get accounts user) (Q all))
    go (Err e) accounts p k = tt
    go (Ok all) accounts p k = some_told (get accounts user) (λ a. made k.0 all a k.2) (tells k.0 accounts p k.1)

-- and of the user's rows
pub finds_among : {S X : Type 0} (g : Ghosts S) (sql : List ℕ) (params : Row) (shows : X → Row) (cells : Row → Row) (old new : Held S) (r : Result (List X) Refusal) (user : List ℕ) (Part : List Row → Tables → Type 0)
    (Q : List X → Tables → Type 0) → ((rows : List Row) (tables : Tables) → HoldsTables mail_schema (state g old).now tables → Shown sql params (state g old) (state g new) rows → Part rows (rows_of user tables))
    → ((rows : List Row) (all : List X) (own : Tables) → map shows all ≡ map cells rows → Part rows own → Q all own) → Queries g (ReadsEach shows cells sql params) old new r → FindsAmong user Q (state g old) (state g new) r
finds_among {X = X} g sql params shows cells old new r user Part Q tells made h = record { found = λ clean tables held. go r tables held (h.finds.found clean (tables, held)); keeps = h.finds.keeps }
  where
    go : (o : Result (List X) Refusal) (tables : Tables) → HoldsTables mail_schema (state g old).now tables → IfOk o (AreOfRows shows cells sql params (state g old) (state g new)) → IfOk o (λ all. Q all (rows_of user tables))
    go (Err e) tables held k = tt
    go (Ok all) tables held k = made k.0 all (rows_of user tables) k.2 (tells k.0 tables held k.1)
