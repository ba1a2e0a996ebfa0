-- Changes one after another in a transaction, and its end.
use Rattle.std.proofs.Common.{◌≡◌, ℕ, ◌+◌, ◌<◌, true, false, List, [], ◌∷◌, ◌++◌, take, length, get_or, Ok, Err, Result, OnOk, IsTrue, refl, sym, ap, subst, ◌∙◌, inl, arith}
use Rattle.std.proofs.lemmas.List.{take_more}
use Rattle.sqlite_trees.specs.Tree.{Trees}
use Rattle.sqlite_trees.specs.declared.store.Store.{Ghosts}
use Rattle.sqlite.specs.Effect.{Database}
use Rattle.sqlite.specs.Held.{Held, state}
use Rattle.sqlite.specs.declared.error.Error.{Error}
use Rattle.sqlite.specs.declared.transaction.Transaction.{Transaction}
use Rattle.sqlite_value.specs.Order.{Row}
use Rattle.sqlite.specs.State.{State, HasCleanDisk, Executes, KeepsCommit, Survives, Shows}
use Rattle.sqlite.proofs.InsideLemmas.{inside_keeps, keeps_then}
use Rattle.sqlite.proofs.StateLemmas.{survives_then}
use Rattle.sqlite.proofs.Callers.{survives_begin}
use Rattle.store_tables.specs.Rows.{Tables, HoldsTables}
use Rattle.store_tables.specs.declared.change.Change.{Change}
use Rattle.store_tables.specs.Schema.{mail_schema}
use Rattle.store_tables.specs.Connection.{RunsInside, RunsText, RunsStatement, Makes, TurnsRows}
use Rattle.store_tables.specs.Changes.{made_one, made, CrashLeavesTables}

-- what is made inside a transaction, where the disk is honest
abbrev pub MakesInside : {X : Type 0} → (Database → Database → Type 0) → State → State → Result X Error → Type 0
MakesInside Turned old new result = HasCleanDisk new → IsTrue old.in_transaction → Makes Turned old new result

-- a statement that ran or failed, where it is known how what is seen then turned
makes_text : {X : Type 0} (Turned : Database → Database → Type 0) (sql : List ℕ) (params : Row) (old new : State) (r : Result X Error)
    → ((count : ℕ) → Executes sql params old new (Ok count) → Turned old.now new.now) → RunsText sql params old new r → Makes Turned old new r
makes_text Turned sql params old new (Err e) turns ran = (inside_keeps old new 0 false sql params (Err e) ran, tt)
makes_text Turned sql params old new (Ok x) turns ran = (inside_keeps old new 0 false sql params (Ok ran.0) ran.1, (turns ran.0 ran.1.0, ran.1.1))

-- the same inside a transaction
pub statement_makes : {S X : Type 0} (g : Ghosts S) (Turned : Database → Database → Type 0) (sql : List ℕ) (params : Row) (old new : Transaction S) (r : Result X Error)
    → ((count : ℕ) → Executes sql params (state g old.conn.now) (state g new.conn.now) (Ok count) → Turned (state g old.conn.now).now (state g new.conn.now).now)
    → RunsStatement g sql params old new r → RunsInside g (Makes Turned) old new r
statement_makes g Turned sql params old new r turns ran = record {
  same_reference = ran.same_reference;
  made = λ clean inside. makes_text Turned sql params (state g old.conn.now) (state g new.conn.now) r turns (ran.made clean inside);
  survives = ran.survives;
}

-- what a loop over the changes keeps
pub record HasMade (old now : State) (changes : List Change) : Type 0 where
  pub inside : IsTrue now.in_transaction
  pub kept : KeepsCommit old now
  pub holds : (tables : Tables) → HoldsTables mail_schema old.now tables → HoldsTables mail_schema now.now (made tables changes)

pub made_push : (changes : List Change) (change : Change) (tables : Tables) → made tables (changes ++ change ∷ []) ≡ made_one change (made tables changes)
made_push [] change tables = refl
made_push (c ∷ changes) change tables = made_push changes change (made_one c tables)

pub clean_before : (mid new : State) (P : Trees → Type 0) → Survives mid new P → HasCleanDisk new → HasCleanDisk mid
clean_before mid new P s clean = let low = s.clean in omega arith

pub one_more : {X : Type 0} (old mid new : State) (changes : List Change) (at : ℕ) (d : Change) (r : Result X Error) (x : X) → r ≡ Ok x → at < length changes → (HasCleanDisk mid → HasMade old mid (take at changes))
    → Survives mid new (λ _. ⊥) → MakesInside (TurnsRows (made_one (get_or changes at d))) mid new r → HasCleanDisk new → HasMade old new (take (at + 1) changes)
one_more old mid new changes at d r x ok within was survives makes clean =
    let before = was (clean_before mid new _ survives clean) in
    let done = makes clean before.inside in
    let went = subst (λ o. OnOk o (((tables : Tables) → HoldsTables mail_schema mid.now tables → HoldsTables mail_schema new.now (made_one (get_or changes at d) tables)) × Shows mid new new.now mid.committed true)) ok done.1 in
    record {
      inside = went.1.mode;
      kept = keeps_then old mid new before.kept done.0;
      holds = λ tables h. subst (HoldsTables mail_schema new.now) (sym (ap (made tables) (take_more changes at d within) ∙ made_push (take at changes) (get_or changes at d) tables)) (went.0 (made tables (take at changes)) (before.holds tables h));
    }

pub if_committed : {X : Type 0} (r : Result X Error) (old mid new : State) (changes : List Change) (P Q : Type 0) (R : Trees → Type 0) → (HasCleanDisk mid → HasMade old mid changes) → Survives mid new R
    → (HasCleanDisk new → OnOk r (IsTrue mid.in_transaction × Shows mid new mid.now mid.now false × P × Q)) → HasCleanDisk new → (tables : Tables) → HoldsTables mail_schema old.now tables
    → OnOk r (HoldsTables mail_schema new.now (made tables changes))
if_committed (Err e) old mid new changes P Q R was survives done clean tables h = tt
if_committed (Ok x) old mid new changes P Q R was survives done clean tables h =
    subst (λ d. HoldsTables mail_schema d (made tables changes)) (sym (done clean).1.now_is) ((was (clean_before mid new R survives clean)).holds tables h)

-- what a crash leaves of the transaction and its commit
pub commits_all : {S : Type 0} (g : Ghosts S) (old : Held S) (last end : State) (changes : List Change) → Survives (state g (record old { in_transaction = true })) last (λ _. ⊥)
    → Survives last end (λ db. db ≡ last.now.trees) → (HasCleanDisk last → HasMade (state g (record old { in_transaction = true })) last changes) → Survives (state g old) end (CrashLeavesTables changes (state g old))
commits_all g old last end changes inside commit was =
    survives_then (state g old) last end _ _ _ (λ _ db none. absurd none)
    (λ clean db is tables h. (last.now, (was (clean_before last end _ commit clean)).holds tables h, is)) (survives_begin g old last _ inside) commit

-- nothing is done
pub survives_same : (s : State) (P : Trees → Type 0) → Survives s s P
survives_same s P = record {
  clean = omega arith;
  shield = λ h. h;
  counts = omega arith;
  limit = refl;
  closes = λ _ is_open. inl is_open;
  crash = λ _ db may. inl may;
}
