-- What the migration reads, and what it makes of the tables.
use Rattle.std.proofs.Common.{◌≡◌, ◌⊎◌, ◌≤◌, ◌<◌, ◌+◌, ◌==◌, nat_le, arith, take, get_or, length, append-nil, append_assoc, ℕ, ℤ, true, false, cond, List, [], ◌∷◌, ◌++◌, map, filter, Option, Some, None, Ok, Err, Result, Vec, IfOk, OnOk, IsTrue, IsPermutation, refl, sym, ap, ◌∙◌, subst, inl, inr}
use Rattle.std.specs.declared.alloc.Global.{Global}
use Rattle.std.proofs.lemmas.List.Sorted.{IsPermutation-map}
use Rattle.sqlite_value.specs.declared.value.Value.TheVariants.{Int}
use Rattle.sqlite_value.specs.Order.{Row}
use Rattle.sqlite_sql.specs.Term.{Term, eval_all}
use Rattle.sqlite_sql.specs.Query.{Output}
use Rattle.sqlite_keyed.proofs.ListLemmas.{map-map}
use Rattle.sqlite_rules.specs.Lists.{Has}
use Rattle.sqlite_schema.specs.declared.command.Returning.{Returning}
use Rattle.sqlite_schema.specs.declared.schema.Table.{Table}
use Rattle.sqlite_schema.specs.declared.schema.Schema.{Schema}
use Rattle.sqlite_resolve.specs.declared.compiled.Compiled.{Compiled}
use Rattle.sqlite_trees.specs.declared.store.Store.{Ghosts}
use Rattle.sqlite.specs.Effect.{Database}
use Rattle.sqlite.specs.Held.{state}
use Rattle.sqlite.specs.declared.error.Error.{Error}
use Rattle.sqlite.specs.declared.transaction.Transaction.{Transaction}
use Rattle.sqlite.specs.State.{State, Executes, HasCleanDisk, Shows, Shown, ShowsRows, FailsToShow, FailsToQuery, IsNotRun, IsTooLate, KeepsCommit, Survives}
use Rattle.sqlite.proofs.InsideLemmas.{unchanged_keeps, keeps_then}
use Rattle.store_tables.specs.Rows.{Tables, HoldsTables, IsHeld}
use Rattle.store_tables.specs.Connection.{RunsInside, Makes, TurnsRows, HasNoneFrom, TurnsSchema}
use Rattle.store_versions.specs.OldSchema.{old_schema, oldest_schema, oldest_4, drop_copy, old_copy, old_copy_tree, oldest_copy_tree, select_old_copies, old_cells, message_from, copy_from}
use Rattle.store_versions.specs.Migration.{AreOldCopies, LosesCopies, Remakes, TurnsNew, IsMigrated, tables_before, refiled, filled, rows_joined, renewed}
use Rattle.store_tables.specs.MetaTable.{meta_tree, version_key, version_row}
use Rattle.store_tables.specs.AccountTable.{account_tree}
use Rattle.store_tables.specs.ScriptTable.{scripts_tree}
use Rattle.store_tables.specs.QueueTable.{outgoing_tree}
use Rattle.store_tables.specs.ReplyTable.{reply_tree}
use Rattle.store_tables.specs.NoticeTable.{notice_tree}
use Rattle.store_tables.specs.MessageTable.{message_tree}
use Rattle.store_tables.specs.CopyTable.{copy_tree}
use Rattle.store_tables.specs.Rows.{has_key}
use Rattle.sqlite_keyed.specs.Lists.{delete_where}
use Rattle.std.proofs.lemmas.List.{take_more}
use Rattle.sqlite.proofs.StateLemmas.{survives_then}
use Rattle.store_tables.proofs.WriteLemmas.{clean_before, survives_same}
use Rattle.store_tables.proofs.ResultLemmas.{on_ok, on_any}
use Rattle.store_tables.specs.Schema.{mail_schema, schema_6, schema_7}
use Rattle.sqlite_rules.proofs.ListLemmas.{all_has}
use Rattle.store_versions.proofs.OldFacts.{old_without_copy, oldest_without_copy, drops_last, drops_fourth, last_not_acted_on, fourth_not_acted_on, Selects, selects_last, selects_fourth, four_columns, copy_names}
use Rattle.store_versions.specs.SecondSchema.{second_copy, second_schema, second_unindexed_schema}
use Rattle.store_versions.proofs.SecondFacts.{second_without_copy, unindexed_without_copy, drops_second, drops_unindexed, second_not_acted_on, unindexed_not_acted_on}
use Rattle.store_tables.proofs.ReadLemmas.{answered, shown_same}
use Rattle.store_tables.proofs.AnswerLemmas.{cells_in_order}
use Rattle.store_versions.proofs.DropLemmas.{drops}
use Rattle.store_versions.specs.Inside.{TurnsInside, FindsInside, Lists, LosesTable}

-- ---- a query inside a transaction keeps the last commit, and the transaction

module _ (sql : List ℕ) (old new : State) (inside : IsTrue old.in_transaction) where
  rows_seen : (c : Compiled) (params : Row) (rows : List Row) (what : Option Returning) → ShowsRows old new sql c params rows what → Shows old new new.now old.committed true
  rows_seen c params rows None h =
      let s = h.3.0 in
      record { was_open = s.was_open; is_open = s.is_open; now_is = refl; committed_is = s.committed_is; mode = s.mode ∙ inside }
  rows_seen c params rows (Some what) h =
      let s = h.1.shown in
      record { was_open = s.was_open; is_open = s.is_open; now_is = refl; committed_is = s.committed_is ∙ ap (λ b. cond b old.committed new.now) inside; mode = s.mode ∙ inside }

  pub shown_seen : (rows : List Row) → Shown sql [] old new rows → Shows old new new.now old.committed true
  unfolding Shown
  shown_seen rows h = rows_seen h.0 _ rows h.0.returning h.2

  fails_keep : (c : Compiled) (params : Row) (e : Error) (what : Option Returning) → FailsToShow old new sql c params e what → KeepsCommit old new
  fails_keep c params e None h = unchanged_keeps old new (inl h.3)
  fails_keep c params e (Some what) (inl refused) = unchanged_keeps old new (inl refused.1)
  fails_keep c params e (Some what) (inr failed) = unchanged_keeps old new (inr failed.3)

  pub query_fails : (e : Error) → FailsToQuery sql [] old new e ⊎ IsTooLate sql [] old new e → KeepsCommit old new
  unfolding FailsToQuery IsNotRun
  query_fails e (inl (inl (inl refused))) = unchanged_keeps old new (inl refused.1)
  query_fails e (inl (inl (inr failed))) = unchanged_keeps old new (inr failed.3)
  query_fails e (inl (inr h)) = fails_keep h.0 _ e h.0.returning h.2
  query_fails e (inr late) = unchanged_keeps old new (inl late.5)

pub finds_listed : {S : Type 0} (g : Ghosts S) (sql : List ℕ) (Found : Vec Row Global → Database → Database → Type 0) (a b : Transaction S) (r : Result (Vec Row Global) Error)
    → ((rows : Vec Row Global) → Shown sql [] (state g a.conn.now) (state g b.conn.now) rows.items → Found rows (state g a.conn.now).now (state g b.conn.now).now) → RunsInside g (Lists sql) a b r → RunsInside g (FindsInside Found) a b r
finds_listed g sql Found a b r finds ran = record { same_reference = ran.same_reference; made = λ clean inside. go r inside (ran.made clean inside); survives = ran.survives }
  where
    go : (o : Result (Vec Row Global) Error) → IsTrue (state g a.conn.now).in_transaction → Lists sql (state g a.conn.now) (state g b.conn.now) o → FindsInside Found (state g a.conn.now) (state g b.conn.now) o
    go (Ok rows) inside h =
        let seen = shown_seen sql (state g a.conn.now) (state g b.conn.now) inside rows.items h.0 in
        (record { was_open = λ _. seen.was_open; committed = λ _. seen.committed_is }, (finds rows h.0, seen))
    go (Err e) inside h = (query_fails sql (state g a.conn.now) (state g b.conn.now) inside e h.1, tt)

-- what was found is made, as it were
pub found_makes : {S X : Type 0} (g : Ghosts S) (Found : X → Database → Database → Type 0) (a b : Transaction S) (r : Result X Error) (x : X) → r ≡ Ok x → RunsInside g (FindsInside Found) a b r → RunsInside g (Makes (Found x)) a b r
found_makes g Found a b r x ok ran = record { same_reference = ran.same_reference; made = λ clean inside. go r ok (ran.made clean inside); survives = ran.survives }
  where
    go : (o : Result _ Error) → o ≡ Ok x → FindsInside Found (state g a.conn.now) (state g b.conn.now) o → Makes (Found x) (state g a.conn.now) (state g b.conn.now) o
    go (Ok y) is h = (h.0, let same : y ≡ x = cc in rw same at h.1)
    go (Err e) is h = absurd (let no = is in cc)

pub find_failed : {S X Y : Type 0} (g : Ghosts S) (Found : X → Database → Database → Type 0) (V : Database → Database → Type 0) (a b : Transaction S) (r : Result X Error) (e : Error) (q : Result Y Error) → q ≡ Err e
    → RunsInside g (FindsInside Found) a b r → RunsInside g (Makes V) a b q
find_failed g Found V a b r e q is ran = record {
  same_reference = ran.same_reference;
  made = λ clean inside. ((ran.made clean inside).0, subst (λ o. OnOk o (V (state g a.conn.now).now (state g b.conn.now).now × Shows (state g a.conn.now) (state g b.conn.now) (state g b.conn.now).now (state g a.conn.now).committed true)) (sym is) tt);
  survives = ran.survives;
}

-- ---- all rows of a table

whole : {X : Type 0} (xs : List X) → filter (λ _. true) xs ≡ xs
whole [] = refl
whole (x ∷ xs) = ap (λ l. x ∷ l) (whole xs)

module _ (schema : Schema) (sql : List ℕ) (table : Table) (project : List Term) (names : List (List ℕ)) (selects : Selects schema sql table.tree project names) (show : Row → Row)
    (shows : (n : ℤ) (cells : Row) → eval_all project ([] ∷ (Int n ∷ cells) ∷ []) ≡ show cells) (listed : Has schema.tables table) where
  pub rows_listed : (old new : State) (tables : Tables) → HoldsTables schema old.now tables → (rows : List Row) → Shown sql [] old new rows → IsPermutation (map show (tables table.tree)) rows
  rows_listed old new tables h rows shown =
      let a = answered schema sql [] old new h.is selects.plain table.tree [] project [] names selects.is selects.unlisted rows shown in
      let found = cells_in_order old.now.trees table.tree [] project [] [] (tables table.tree) (h.each table listed) (λ _. true) (λ n cells. refl) (λ cells. ([], show cells)) (λ n cells. ap (λ (r : Row). ([], r)) (shows n cells)) rows a in
      let mapped = IsPermutation-map (λ (o : Output). o.1) _ found.0 found.1 in
      let are : map (λ (o : Output). o.1) (map (λ (cells : Row). ([], show cells)) (filter (λ _. true) (tables table.tree))) ≡ map show (tables table.tree) =
      map-map (λ (o : Output). o.1) (λ (cells : Row). ([], show cells)) _ ∙ ap (map show) (whole (tables table.tree)) in
      subst (λ l. IsPermutation (map show (tables table.tree)) l) (sym found.3) (subst (λ l. IsPermutation l (map (λ (o : Output). o.1) found.0)) are mapped)

  pub stays_seen : (old new : State) → old.now.schema ≡ schema → (rows : List Row) → Shown sql [] old new rows → new.now ≡ old.now
  stays_seen old new is rows shown = (shown_same schema sql [] old new is selects.plain rows shown).0.now_is

pub copies_found : (old new : State) (rows : Vec Row Global) → Shown select_old_copies [] old new rows.items → AreOldCopies rows old.now new.now
copies_found old new rows shown = record {
  same = λ is. elim is [
    | inl last ↦ stays_seen old_schema select_old_copies (old_copy old_copy_tree) four_columns copy_names selects_last old_cells (λ n cells. refl) at_end old new last rows.items shown
    | inr fourth ↦ stays_seen oldest_schema select_old_copies (old_copy oldest_copy_tree) four_columns copy_names selects_fourth old_cells (λ n cells. refl) at_fourth old new fourth rows.items shown
  ];
  last = λ tables h. rows_listed old_schema select_old_copies (old_copy old_copy_tree) four_columns copy_names selects_last old_cells (λ n cells. refl) at_end old new tables h rows.items shown;
  fourth = λ tables h. rows_listed oldest_schema select_old_copies (old_copy oldest_copy_tree) four_columns copy_names selects_fourth old_cells (λ n cells. refl) at_fourth old new tables h rows.items shown;
}
  where
    at_end : Has old_schema.tables (old_copy old_copy_tree)
    at_end = inr (inr (inr (inr (inr (inr (inl refl))))))

    at_fourth : Has oldest_schema.tables (old_copy oldest_copy_tree)
    at_fourth = inr (inr (inr (inl refl)))

-- ---- the table of the copies goes, and those of messages and copies are made

pub copies_dropped : (old new : State) (count : ℕ) → Executes drop_copy [] old new (Ok count) → LosesCopies old.now new.now
copies_dropped old new count ran = record {
  last = subst (λ s. LosesTable old_schema s old.now new.now) old_without_copy (drops old_schema drop_copy 6 (old_copy old_copy_tree) refl drops_last.is drops_last.plain last_not_acted_on refl old new count ran);
  fourth = subst (λ s. LosesTable oldest_4 s old.now new.now) oldest_without_copy (drops oldest_4 drop_copy 3 (old_copy oldest_copy_tree) refl drops_fourth.is drops_fourth.plain fourth_not_acted_on refl old new count ran);
  second = λ schema is. elim is [
    | inl indexed ↦ subst (λ s. LosesTable s schema_7 old.now new.now) (sym indexed) (subst (λ s. LosesTable second_schema s old.now new.now) second_without_copy (drops second_schema drop_copy 7 second_copy refl drops_second.is drops_second.plain second_not_acted_on refl old new count ran))
    | inr lacks ↦ subst (λ s. LosesTable s schema_7 old.now new.now) (sym lacks)
        (subst (λ s. LosesTable second_unindexed_schema s old.now new.now) unindexed_without_copy (drops second_unindexed_schema drop_copy 7 second_copy refl drops_unindexed.is drops_unindexed.plain unindexed_not_acted_on refl old new count ran))
  ];
}

le_true : (n m : ℕ) → n ≤ m → nat_le n m ≡ true
le_true n m low = grind (arith, low)

pub none_before : (n : ℕ) (tables : Tables) → HasNoneFrom n (tables_before n tables)
none_before n tables tree from = rw (le_true n tree from) refl

-- the tables before the copies are the same
held_before : (db : Database) (tables : Tables) → HoldsTables schema_6 db tables → HoldsTables schema_6 db (tables_before old_copy_tree tables)
held_before db tables h = record {
  is = h.is;
  fits = h.fits;
  each = λ t listed. subst (IsHeld (db.trees t.tree)) (sym (all_has (λ (x : Table). tables_before old_copy_tree tables x.tree ≡ tables x.tree) schema_6.tables t (refl, (refl, (refl, (refl, (refl, (refl, tt)))))) listed)) (h.each t listed);
}

pub remakes : (old mid new : Database) → LosesCopies old mid → TurnsSchema schema_6 mail_schema mid new → Remakes old new
remakes old mid new loses makes tables h = makes (tables_before old_copy_tree tables) (held_before mid tables (loses.last tables h)) (none_before old_copy_tree tables)

-- ---- the copies, one after another

filled_push : (rows : List Row) (cells : Row) (tables : Tables) → filled (rows ++ cells ∷ []) tables ≡ refiled cells (filled rows tables)
filled_push [] cells tables = refl
filled_push (r ∷ rows) cells tables = filled_push rows cells (refiled r tables)

pub none_filled : {S : Type 0} (g : Ghosts S) (a : Transaction S) → RunsInside {X = Unit {0}} g (TurnsInside (TurnsRows (filled []))) a a (Ok tt)
none_filled g a = record {
  same_reference = refl;
  made = λ clean inside. (record { was_open = λ h. h; committed = λ _. refl }, ((λ tables h. h), inside));
  survives = survives_same (state g a.conn.now) (λ _. ⊥);
}

pub none_joined : {S : Type 0} (g : Ghosts S) (tree : ℕ) (columns : Row → Row) (a : Transaction S) → RunsInside {X = Unit {0}} g (TurnsInside (TurnsRows (rows_joined tree columns []))) a a (Ok tt)
none_joined g tree columns a = record {
  same_reference = refl;
  made = λ clean inside. (record { was_open = λ h. h; committed = λ _. refl }, ((λ tables h. h), inside));
  survives = survives_same (state g a.conn.now) (λ _. ⊥);
}

-- what is left of a loop that a refusal ends
pub keeps_failed : {S X Y : Type 0} (g : Ghosts S) (T V : Database → Database → Type 0) (a b : Transaction S) (r : Result X Error) (e : Error) (q : Result Y Error) → q ≡ Err e → RunsInside g (TurnsInside T) a b r → RunsInside g (TurnsInside V) a b q
keeps_failed g T V a b r e q is one = record {
  same_reference = one.same_reference;
  made = λ clean inside. ((one.made clean inside).0, subst (λ o. OnOk o (V (state g a.conn.now).now (state g b.conn.now).now × IsTrue (state g b.conn.now).in_transaction)) (sym is) tt);
  survives = one.survives;
}

pub keeps_refused : {S X Y : Type 0} (g : Ghosts S) (T V : Database → Database → Type 0) (a b : Transaction S) (r : Result X Error) (e : Error) (q : Result Y Error) → q ≡ Err e → RunsInside g (TurnsInside T) a b r → RunsInside g (Makes V) a b q
keeps_refused g T V a b r e q is one = record {
  same_reference = one.same_reference;
  made = λ clean inside. ((one.made clean inside).0, subst (λ o. OnOk o (V (state g a.conn.now).now (state g b.conn.now).now × Shows (state g a.conn.now) (state g b.conn.now) (state g b.conn.now).now (state g a.conn.now).committed true)) (sym is) tt);
  survives = one.survives;
}

module _ {S X Y : Type 0} (g : Ghosts S) (T U V : Database → Database → Type 0) (a b c : Transaction S) (r : Result X Error) (x : X) (ok : r ≡ Ok x) (q : Result Y Error) (one : RunsInside g (TurnsInside T) a b r) (two : RunsInside g (Makes U) b c q) where
  abbrev start : State
  start = state g a.conn.now

  abbrev middle : State
  middle = state g b.conn.now

  abbrev ending : State
  ending = state g c.conn.now

  begun : HasCleanDisk ending → IsTrue start.in_transaction → KeepsCommit start middle × T start.now middle.now × IsTrue middle.in_transaction
  begun clean inside = let was = one.made (clean_before middle ending (λ _. ⊥) two.survives clean) inside in let went = on_ok r x ok _ was.1 in (was.0, went.0, went.1)

  done : HasCleanDisk ending → IsTrue start.in_transaction → Makes U middle ending q
  done clean inside = two.made clean (begun clean inside).2

  lasts : Survives start ending (λ _. ⊥)
  lasts = survives_then start middle ending _ _ _ (λ _ db none. none) (λ _ db none. none) one.survives two.survives

  pub keeps_stopped : {Z : Type 0} (e : Error) (z : Result Z Error) → z ≡ Err e → RunsInside g (TurnsInside V) a c z
  keeps_stopped e z is = record {
    same_reference = two.same_reference ∙ one.same_reference;
    made = λ clean inside. (keeps_then start middle ending (begun clean inside).0 (done clean inside).0, subst (λ o. OnOk o (V start.now ending.now × IsTrue ending.in_transaction)) (sym is) tt);
    survives = lasts;
  }

  module _ (both : T start.now middle.now → U middle.now ending.now → V start.now ending.now) where
    pub keeps_more : {Z : Type 0} (y : Y) → q ≡ Ok y → (z : Result Z Error) → RunsInside g (TurnsInside V) a c z
    keeps_more y is z = record {
      same_reference = two.same_reference ∙ one.same_reference;
      made = λ clean inside. let was = begun clean inside in let now = on_ok q y is _ (done clean inside).1 in (keeps_then start middle ending was.0 (done clean inside).0, on_any z _ (both was.1 now.0, now.1.mode));
      survives = lasts;
    }

    pub keeps_made : RunsInside g (Makes V) a c q
    keeps_made = record {
      same_reference = two.same_reference ∙ one.same_reference;
      made = λ clean inside. let was = begun clean inside in let now = done clean inside in (keeps_then start middle ending was.0 now.0, go q was now.1);
      survives = lasts;
    }
      where
        go : (o : Result Y Error) → KeepsCommit start middle × T start.now middle.now × IsTrue middle.in_transaction → OnOk o (U middle.now ending.now × Shows middle ending ending.now middle.committed true) → OnOk o (V start.now ending.now × Shows start ending ending.now start.committed true)
        go (Ok y) was now = (both was.1 now.0, record { was_open = was.0.was_open now.1.was_open; is_open = now.1.is_open; now_is = refl; committed_is = now.1.committed_is ∙ was.0.committed now.1.was_open; mode = now.1.mode })
        go (Err e) was now = tt

-- one more of them
pub one_more_filled : (rows : List Row) (at : ℕ) (d : Row) (cells : Row) → at < length rows → old_cells (get_or rows at d) ≡ cells → (old mid new : Database) → TurnsRows (filled (take at rows)) old mid → TurnsRows (refiled cells) mid new
    → TurnsRows (filled (take (at + 1) rows)) old new
one_more_filled rows at d cells within is old mid new first second tables h =
    let more = ap (λ l. filled l tables) (take_more rows at d within) ∙ filled_push (take at rows) (get_or rows at d) tables in
    let last = subst (λ (c : Row). TurnsRows (refiled c) mid new) (sym is) second (filled (take at rows) tables) (first tables h) in
    subst (HoldsTables mail_schema new) (sym more) last

-- ---- what they make of the tables

filled_messages : (rows : List Row) (tables : Tables) → filled rows tables message_tree ≡ tables message_tree ++ map message_from rows
filled_messages [] tables = sym (append-nil (tables message_tree))
filled_messages (r ∷ rows) tables = filled_messages rows (refiled r tables) ∙ append_assoc (tables message_tree) (message_from r ∷ []) (map message_from rows)

filled_copies : (rows : List Row) (tables : Tables) → filled rows tables copy_tree ≡ tables copy_tree ++ map copy_from rows
filled_copies [] tables = sym (append-nil (tables copy_tree))
filled_copies (r ∷ rows) tables = filled_copies rows (refiled r tables) ∙ append_assoc (tables copy_tree) (copy_from r ∷ []) (map copy_from rows)

filled_beside : (tree : ℕ) → (tree == message_tree) ≡ false → (tree == copy_tree) ≡ false → (rows : List Row) (tables : Tables) → filled rows tables tree ≡ tables tree
filled_beside tree no_message no_copy [] tables = refl
filled_beside tree no_message no_copy (r ∷ rows) tables = filled_beside tree no_message no_copy rows (refiled r tables) ∙ rw (no_copy, no_message) refl

-- the tables that they join are those before, and hold neither message nor copy
pub record IsCleared (old new : Tables) : Type 0 where
  pub versions : new meta_tree ≡ old meta_tree
  pub accounts : new account_tree ≡ old account_tree
  pub scripts : new scripts_tree ≡ old scripts_tree
  pub queue : new outgoing_tree ≡ old outgoing_tree
  pub replies : new reply_tree ≡ old reply_tree
  pub notices : new notice_tree ≡ old notice_tree
  pub messages : new message_tree ≡ []
  pub filed : new copy_tree ≡ []

pub migrated : (tables cleared : Tables) (rows : List Row) → IsCleared tables cleared → IsPermutation (map old_cells (tables old_copy_tree)) rows → IsMigrated tables (renewed (filled rows cleared))
migrated tables cleared rows is same = record {
  copies = rows;
  same = same;
  messages = filled_messages rows cleared ∙ ap (λ l. l ++ map message_from rows) is.messages;
  filed = filled_copies rows cleared ∙ ap (λ l. l ++ map copy_from rows) is.filed;
  version = ap (λ l. delete_where (has_key version_key) l ++ version_row ∷ []) (filled_beside meta_tree refl refl rows cleared ∙ is.versions);
  accounts = filled_beside account_tree refl refl rows cleared ∙ is.accounts;
  scripts = filled_beside scripts_tree refl refl rows cleared ∙ is.scripts;
  queue = filled_beside outgoing_tree refl refl rows cleared ∙ is.queue;
  replies = filled_beside reply_tree refl refl rows cleared ∙ is.replies;
  notices = filled_beside notice_tree refl refl rows cleared ∙ is.notices;
}

pub turns_new : (old found between new : Database) (rows : Vec Row Global) → AreOldCopies rows old found → Remakes found between → TurnsRows (λ tables. renewed (filled rows.items tables)) between new → TurnsNew old new
turns_new old found between new rows copies remade refilled tables h =
    let at = subst (λ d. HoldsTables old_schema d tables) (sym (copies.same (inl h.is))) h in
    (renewed (filled rows.items (tables_before old_copy_tree tables)), migrated tables (tables_before old_copy_tree tables) rows.items cleared (copies.last tables h), refilled (tables_before old_copy_tree tables) (remade tables at))
  where
    cleared : IsCleared tables (tables_before old_copy_tree tables)
    cleared = record { versions = refl; accounts = refl; scripts = refl; queue = refl; replies = refl; notices = refl; messages = refl; filed = refl }

-- ---- more steps

pub makes_keeps : {S X : Type 0} (g : Ghosts S) (T : Database → Database → Type 0) (a b : Transaction S) (r : Result X Error) → RunsInside g (Makes T) a b r → RunsInside g (TurnsInside T) a b r
makes_keeps {X = X} g T a b r one = record { same_reference = one.same_reference; made = λ clean inside. (let was = one.made clean inside in (was.0, go r was.1)); survives = one.survives }
  where
    go : (o : Result X Error) → OnOk o (T (state g a.conn.now).now (state g b.conn.now).now × Shows (state g a.conn.now) (state g b.conn.now) (state g b.conn.now).now (state g a.conn.now).committed true)
        → OnOk o (T (state g a.conn.now).now (state g b.conn.now).now × IsTrue (state g b.conn.now).in_transaction)
    go (Ok x) was = (was.0, was.1.mode)
    go (Err e) was = tt

pub keeps_chain : {S X Y : Type 0} (g : Ghosts S) (T U V : Database → Database → Type 0) (a b c : Transaction S) (r : Result X Error) (x : X) → r ≡ Ok x → (q : Result Y Error) → RunsInside g (TurnsInside T) a b r → RunsInside g (TurnsInside U) b c q
    → ((old between new : Database) → T old between → U between new → V old new) → RunsInside g (TurnsInside V) a c q
keeps_chain {Y = Y} g T U V a b c r x ok q one two both = record {
  same_reference = two.same_reference ∙ one.same_reference;
  made = λ clean inside.
      let was = one.made (clean_before (state g b.conn.now) (state g c.conn.now) (λ _. ⊥) two.survives clean) inside in
      let went = on_ok r x ok _ was.1 in
      let now = two.made clean went.1 in
      (keeps_then (state g a.conn.now) (state g b.conn.now) (state g c.conn.now) was.0 now.0, go q went.0 now.1);
  survives = survives_then (state g a.conn.now) (state g b.conn.now) (state g c.conn.now) _ _ _ (λ _ db none. none) (λ _ db none. none) one.survives two.survives;
}
  where
    go : (o : Result Y Error) → T (state g a.conn.now).now (state g b.conn.now).now → OnOk o (U (state g b.conn.now).now (state g c.conn.now).now × IsTrue (state g c.conn.now).in_transaction)
        → OnOk o (V (state g a.conn.now).now (state g c.conn.now).now × IsTrue (state g c.conn.now).in_transaction)
    go (Ok y) was now = (both _ _ _ was now.0, now.1)
    go (Err e) was now = tt

-- what was made is found
pub makes_found : {S X Y : Type 0} (g : Ghosts S) (T : Database → Database → Type 0) (Found : Y → Database → Database → Type 0) (a b : Transaction S) (r : Result X Error) (x : X) → r ≡ Ok x → (y : Y)
    → ((old new : Database) → T old new → Found y old new) → RunsInside g (Makes T) a b r → RunsInside g (FindsInside Found) a b (Ok y)
makes_found g T Found a b r x ok y is one = record {
  same_reference = one.same_reference;
  made = λ clean inside. (let was = one.made clean inside in let now = on_ok r x ok _ was.1 in (was.0, (is _ _ now.0, now.1)));
  survives = one.survives;
}

pub find_failed_find : {S X Y : Type 0} (g : Ghosts S) (Found : X → Database → Database → Type 0) (Other : Y → Database → Database → Type 0) (a b : Transaction S) (r : Result X Error) (e : Error) (q : Result Y Error) → q ≡ Err e
    → RunsInside g (FindsInside Found) a b r → RunsInside g (FindsInside Other) a b q
find_failed_find g Found Other a b r e q is one = record {
  same_reference = one.same_reference;
  made = λ clean inside. ((one.made clean inside).0, subst (λ o. IfOk o (λ y. Other y (state g a.conn.now).now (state g b.conn.now).now × Shows (state g a.conn.now) (state g b.conn.now) (state g b.conn.now).now (state g a.conn.now).committed true)) (sym is) tt);
  survives = one.survives;
}

-- a query failed after what was made
pub find_stopped : {S X Y Z : Type 0} (g : Ghosts S) (T : Database → Database → Type 0) (Found : Y → Database → Database → Type 0) (Other : Z → Database → Database → Type 0) (a b c : Transaction S) (r : Result X Error) (x : X) → r ≡ Ok x
    → (q : Result Y Error) (e : Error) (z : Result Z Error) → z ≡ Err e → RunsInside g (Makes T) a b r → RunsInside g (FindsInside Found) b c q → RunsInside g (FindsInside Other) a c z
find_stopped g T Found Other a b c r x ok q e z is one two = record {
  same_reference = two.same_reference ∙ one.same_reference;
  made = λ clean inside.
      let was = one.made (clean_before (state g b.conn.now) (state g c.conn.now) (λ _. ⊥) two.survives clean) inside in
      let went = on_ok r x ok _ was.1 in (
        keeps_then (state g a.conn.now) (state g b.conn.now) (state g c.conn.now) was.0 (two.made clean went.1.mode).0,
        subst (λ o. IfOk o (λ y. Other y (state g a.conn.now).now (state g c.conn.now).now × Shows (state g a.conn.now) (state g c.conn.now) (state g c.conn.now).now (state g a.conn.now).committed true)) (sym is) tt,
      );
  survives = survives_then (state g a.conn.now) (state g b.conn.now) (state g c.conn.now) _ _ _ (λ _ db none. none) (λ _ db none. none) one.survives two.survives;
}

-- the same, for a call that makes
pub makes_stopped : {S X Y Z : Type 0} (g : Ghosts S) (T V : Database → Database → Type 0) (Found : Y → Database → Database → Type 0) (a b c : Transaction S) (r : Result X Error) (x : X) → r ≡ Ok x
    → (q : Result Y Error) (e : Error) (z : Result Z Error) → z ≡ Err e → RunsInside g (Makes T) a b r → RunsInside g (FindsInside Found) b c q → RunsInside g (Makes V) a c z
makes_stopped g T V Found a b c r x ok q e z is one two = record {
  same_reference = two.same_reference ∙ one.same_reference;
  made = λ clean inside.
      let was = one.made (clean_before (state g b.conn.now) (state g c.conn.now) (λ _. ⊥) two.survives clean) inside in
      let went = on_ok r x ok _ was.1 in (
        keeps_then (state g a.conn.now) (state g b.conn.now) (state g c.conn.now) was.0 (two.made clean went.1.mode).0,
        subst (λ o. OnOk o (V (state g a.conn.now).now (state g c.conn.now).now × Shows (state g a.conn.now) (state g c.conn.now) (state g c.conn.now).now (state g a.conn.now).committed true)) (sym is) tt,
      );
  survives = survives_then (state g a.conn.now) (state g b.conn.now) (state g c.conn.now) _ _ _ (λ _ db none. none) (λ _ db none. none) one.survives two.survives;
}
