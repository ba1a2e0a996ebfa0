-- Version 1 with the copies fourth: what is read of the later tables, and what becomes of them.
use Rattle.std.proofs.Common.{◌≡◌, ◌<◌, ◌+◌, ◌==◌, ℕ, true, false, List, [], ◌∷◌, ◌++◌, map, take, get_or, length, append-nil, append_assoc, Ok, Vec, IsPermutation, refl, sym, ap, ◌∙◌, subst, inl, inr, arith}
use Rattle.std.specs.declared.alloc.Global.{Global}
use Rattle.std.proofs.lemmas.List.{take_more}
use Rattle.std.proofs.lemmas.List.Sorted.{IsPermutation-map}
use Rattle.sqlite_value.specs.Order.{Row}
use Rattle.sqlite_keyed.proofs.ListLemmas.{map-map}
use Rattle.sqlite_rules.specs.Lists.{Has}
use Rattle.sqlite_rules.proofs.ListLemmas.{all_has}
use Rattle.sqlite_schema.specs.declared.schema.Table.{Table}
use Rattle.sqlite_trees.specs.Tree.{with_tree}
use Rattle.sqlite.specs.Effect.{Database}
use Rattle.sqlite.specs.State.{State, Executes, Shown}
use Rattle.store_tables.specs.Rows.{Tables, HoldsTables, IsHeld, row_added}
use Rattle.store_tables.specs.Schema.{mail_schema, schema_3, schema_6}
use Rattle.store_tables.specs.Connection.{TurnsRows, TurnsSchema}
use Rattle.store_versions.specs.OldSchema.{oldest_schema, oldest_4, oldest_5, oldest_6, oldest_copy_tree, old_copy_tree, oldest_outgoing_tree, oldest_reply_tree, oldest_notice_tree, select_old_queue, select_old_replies, select_old_notices, drop_outgoing, drop_reply, drop_notice, queue_columns, four_cells, old_cells}
use Rattle.store_tables.specs.MetaTable.{meta_tree}
use Rattle.store_tables.specs.AccountTable.{account_tree}
use Rattle.store_tables.specs.ScriptTable.{scripts_tree}
use Rattle.store_tables.specs.QueueTable.{outgoing, outgoing_tree, insert_outgoing}
use Rattle.store_tables.specs.ReplyTable.{reply, reply_tree}
use Rattle.store_tables.specs.NoticeTable.{notice, notice_tree}
use Rattle.store_tables.specs.MessageTable.{message_tree}
use Rattle.store_tables.specs.CopyTable.{copy_tree}
use Rattle.store_versions.specs.declared.moving.Later.{Later}
use Rattle.store_versions.specs.declared.moving.Queued.{Queued}
use Rattle.store_versions.specs.Migration.{AreOldCopies, AreOldRows, AreLater, RemakesAll, IsMoved, TurnsNewest, tables_before, rows_joined, restored, filled, renewed, queued_cells}
use Rattle.store_tables.proofs.CellLemmas.{cast_int}
use Rattle.store_tables.proofs.SchemaFacts.{no_works, outgoing_listed}
use Rattle.store_tables.proofs.TextFacts.{six_terms, insert_outgoing_is, insert_outgoing_plain}
use Rattle.store_tables.proofs.StepLemmas.{on_insert, insert_holds}
use Rattle.store_versions.proofs.DropLemmas.{drops}
use Rattle.store_versions.proofs.OldFacts.{six_columns, four_columns, queue_names, reply_names, notice_names, selects_queue, selects_replies, selects_notices, drops_notice, drops_reply, drops_outgoing, without_notice, without_reply, without_outgoing, notice_not_acted_on, reply_not_acted_on, outgoing_not_acted_on}
use Rattle.store_versions.proofs.MigrationLemmas.{rows_listed, stays_seen, none_before, IsCleared, migrated}
use Rattle.store_versions.specs.Inside.{LosesTable}

-- ---- what is read

pub queue_found : (old new : State) (rows : Vec Row Global) → Shown select_old_queue [] old new rows.items → AreOldRows oldest_outgoing_tree queue_columns rows old.now new.now
queue_found old new rows shown = record {
  same = λ is. stays_seen oldest_schema select_old_queue (record outgoing { tree = oldest_outgoing_tree }) six_columns queue_names selects_queue queue_columns (λ n cells. refl) there old new is rows.items shown;
  all = λ tables h. rows_listed oldest_schema select_old_queue (record outgoing { tree = oldest_outgoing_tree }) six_columns queue_names selects_queue queue_columns (λ n cells. refl) there old new tables h rows.items shown;
}
  where
    there : Has oldest_schema.tables (record outgoing { tree = oldest_outgoing_tree })
    there = inr (inr (inr (inr (inl refl))))

pub replies_found : (old new : State) (rows : Vec Row Global) → Shown select_old_replies [] old new rows.items → AreOldRows oldest_reply_tree four_cells rows old.now new.now
replies_found old new rows shown = record {
  same = λ is. stays_seen oldest_schema select_old_replies (record reply { tree = oldest_reply_tree }) four_columns reply_names selects_replies four_cells (λ n cells. refl) there old new is rows.items shown;
  all = λ tables h. rows_listed oldest_schema select_old_replies (record reply { tree = oldest_reply_tree }) four_columns reply_names selects_replies four_cells (λ n cells. refl) there old new tables h rows.items shown;
}
  where
    there : Has oldest_schema.tables (record reply { tree = oldest_reply_tree })
    there = inr (inr (inr (inr (inr (inl refl)))))

pub notices_found : (old new : State) (rows : Vec Row Global) → Shown select_old_notices [] old new rows.items → AreOldRows oldest_notice_tree four_cells rows old.now new.now
notices_found old new rows shown = record {
  same = λ is. stays_seen oldest_schema select_old_notices (record notice { tree = oldest_notice_tree }) four_columns notice_names selects_notices four_cells (λ n cells. refl) there old new is rows.items shown;
  all = λ tables h. rows_listed oldest_schema select_old_notices (record notice { tree = oldest_notice_tree }) four_columns notice_names selects_notices four_cells (λ n cells. refl) there old new tables h rows.items shown;
}
  where
    there : Has oldest_schema.tables (record notice { tree = oldest_notice_tree })
    there = inr (inr (inr (inr (inr (inr (inl refl))))))

-- the three, one after another
pub later_found : (later : Later) (old first second new : Database) → AreOldRows oldest_outgoing_tree queue_columns later.queue old first → AreOldRows oldest_reply_tree four_cells later.replies first second
    → AreOldRows oldest_notice_tree four_cells later.notices second new → AreLater later old new
later_found later old first second new queue replies notices = record {
  same = λ is. last is ∙ middle is ∙ queue.same is;
  queue = queue.all;
  replies = λ tables h. replies.all tables (subst (λ d. HoldsTables oldest_schema d tables) (sym (queue.same h.is)) h);
  notices = λ tables h. notices.all tables (subst (λ d. HoldsTables oldest_schema d tables) (sym (middle h.is ∙ queue.same h.is)) h);
}
  where
    middle : old.schema ≡ oldest_schema → second ≡ first
    middle is = replies.same (ap (λ (d : Database). d.schema) (queue.same is) ∙ is)

    last : old.schema ≡ oldest_schema → new ≡ second
    last is = notices.same (ap (λ (d : Database). d.schema) (middle is ∙ queue.same is) ∙ is)

-- ---- the tables go

pub notice_dropped : (old new : State) (count : ℕ) → Executes drop_notice [] old new (Ok count) → LosesTable oldest_schema oldest_6 old.now new.now
notice_dropped old new count ran =
    subst (λ s. LosesTable oldest_schema s old.now new.now) without_notice (drops oldest_schema drop_notice 6 (record notice { tree = oldest_notice_tree }) refl drops_notice.is drops_notice.plain notice_not_acted_on refl old new count ran)

pub reply_dropped : (old new : State) (count : ℕ) → Executes drop_reply [] old new (Ok count) → LosesTable oldest_6 oldest_5 old.now new.now
reply_dropped old new count ran =
    subst (λ s. LosesTable oldest_6 s old.now new.now) without_reply (drops oldest_6 drop_reply 5 (record reply { tree = oldest_reply_tree }) refl drops_reply.is drops_reply.plain reply_not_acted_on refl old new count ran)

pub outgoing_dropped : (old new : State) (count : ℕ) → Executes drop_outgoing [] old new (Ok count) → LosesTable oldest_5 oldest_4 old.now new.now
outgoing_dropped old new count ran =
    subst (λ s. LosesTable oldest_5 s old.now new.now) without_outgoing (drops oldest_5 drop_outgoing 4 (record outgoing { tree = oldest_outgoing_tree }) refl drops_outgoing.is drops_outgoing.plain outgoing_not_acted_on refl old new count ran)

-- the first three tables stay
held_first : (db : Database) (tables : Tables) → HoldsTables schema_3 db tables → HoldsTables schema_3 db (tables_before oldest_copy_tree tables)
held_first db tables h = record {
  is = h.is;
  fits = h.fits;
  each = λ t listed. subst (IsHeld (db.trees t.tree)) (sym (all_has (λ (x : Table). tables_before oldest_copy_tree tables x.tree ≡ tables x.tree) schema_3.tables t (refl, (refl, (refl, tt))) listed)) (h.each t listed);
}

-- those after them are made anew, up to the notices; and then the messages and the copies
abbrev pub Halfway : Database → Database → Type 0
Halfway old new = (tables : Tables) → HoldsTables oldest_schema old tables → HoldsTables schema_6 new (tables_before oldest_copy_tree tables)

pub halfway : (old between new : Database) → LosesTable oldest_schema schema_3 old between → TurnsSchema schema_3 schema_6 between new → Halfway old new
halfway old between new loses makes tables h = makes (tables_before oldest_copy_tree tables) (held_first between tables (loses tables h)) (none_before oldest_copy_tree tables)

pub remakes_all : (old between new : Database) → Halfway old between → TurnsSchema schema_6 mail_schema between new → RemakesAll old new
remakes_all old between new half makes tables h = makes (tables_before oldest_copy_tree tables) (half tables h) (λ tree from. none_before oldest_copy_tree tables tree (omega (arith, from)))

-- ---- their rows join them again

pub requeues : (old new : State) (queued : Queued) (count : ℕ) → Executes insert_outgoing (queued_cells queued) old new (Ok count) → TurnsRows (row_added outgoing_tree (queued_cells queued)) old.now new.now
requeues old new queued count ran tables h =
    let params = queued_cells queued in
    let on = on_insert mail_schema insert_outgoing params old new tables h insert_outgoing_plain count ran 3 outgoing refl _ insert_outgoing_is in
    insert_holds mail_schema no_works outgoing.name outgoing_tree outgoing.primary outgoing.references outgoing.columns params old new tables h outgoing_listed 3 six_terms 7 params on.0 refl
    (rw (cast_int queued.id, cast_int queued.kind)) on.1

module _ (tree : ℕ) (columns : Row → Row) where
  joined_push : (rows : List Row) (cells : Row) (tables : Tables) → rows_joined tree columns (rows ++ cells ∷ []) tables ≡ row_added tree (columns cells) (rows_joined tree columns rows tables)
  joined_push [] cells tables = refl
  joined_push (r ∷ rows) cells tables = joined_push rows cells (row_added tree (columns r) tables)

  pub one_more_joined : (rows : List Row) (at : ℕ) (d : Row) (cells : Row) → at < length rows → columns (get_or rows at d) ≡ cells → (old between new : Database) → TurnsRows (rows_joined tree columns (take at rows)) old between
      → TurnsRows (row_added tree cells) between new → TurnsRows (rows_joined tree columns (take (at + 1) rows)) old new
  one_more_joined rows at d cells within is old between new first second tables h =
      let more = ap (λ l. rows_joined tree columns l tables) (take_more rows at d within) ∙ joined_push (take at rows) (get_or rows at d) tables in
      let last = subst (λ (c : Row). TurnsRows (row_added tree c) between new) (sym is) second (rows_joined tree columns (take at rows) tables) (first tables h) in
      subst (HoldsTables mail_schema new) (sym more) last

  pub joined_at : (rows : List Row) (tables : Tables) → (tree == tree) ≡ true → rows_joined tree columns rows tables tree ≡ tables tree ++ map columns rows
  joined_at [] tables itself = sym (append-nil (tables tree))
  joined_at (r ∷ rows) tables itself = joined_at rows (row_added tree (columns r) tables) itself ∙ ap (λ l. l ++ map columns rows) (rw itself refl) ∙ append_assoc (tables tree) (columns r ∷ []) (map columns rows)

  pub joined_beside : (other : ℕ) → (other == tree) ≡ false → (rows : List Row) (tables : Tables) → rows_joined tree columns rows tables other ≡ tables other
  joined_beside other apart [] tables = refl
  joined_beside other apart (r ∷ rows) tables = joined_beside other apart rows (row_added tree (columns r) tables) ∙ rw apart refl

-- a table beside the three stays
restored_beside : (tree : ℕ) → (tree == outgoing_tree) ≡ false → (tree == reply_tree) ≡ false → (tree == notice_tree) ≡ false → (later : Later) (tables : Tables) → restored later tables tree ≡ tables tree
restored_beside tree no_queue no_reply no_notice later tables =
    joined_beside notice_tree four_cells tree no_notice later.notices.items _ ∙ joined_beside reply_tree four_cells tree no_reply later.replies.items _ ∙ joined_beside outgoing_tree queue_columns tree no_queue later.queue.items tables

-- rows that were taken column by column are taken so again
again : (columns : Row → Row) → ((cells : Row) → columns (columns cells) ≡ columns cells) → (all rows : List Row) → IsPermutation (map columns all) rows → IsPermutation (map columns all) (map columns rows)
again columns twice all rows same =
    subst (λ l. IsPermutation l (map columns rows)) (map-map columns columns all ∙ every all) (IsPermutation-map columns (map columns all) rows same)
  where
    every : (cells : List Row) → map (λ c. columns (columns c)) cells ≡ map columns cells
    every [] = refl
    every (c ∷ cells) = rw (twice c) (ap (λ l. columns c ∷ l) (every cells))

-- ---- the whole

-- the tables as they would be with the copies last
abbrev pub moved : Later → Tables → Tables
moved later tables = with_tree (restored later (tables_before oldest_copy_tree tables)) old_copy_tree (tables oldest_copy_tree)

is_moved : (later : Later) (db : Database) (tables : Tables) → HoldsTables oldest_schema db tables → (new : Database) → AreLater later db new → IsMoved tables (moved later tables)
is_moved later db tables h new is = record {
  versions = restored_beside meta_tree refl refl refl later (tables_before oldest_copy_tree tables);
  accounts = restored_beside account_tree refl refl refl later (tables_before oldest_copy_tree tables);
  scripts = restored_beside scripts_tree refl refl refl later (tables_before oldest_copy_tree tables);
  queue = subst (IsPermutation (map queue_columns (tables oldest_outgoing_tree))) (sym queue_rows) (again queue_columns (λ cells. refl) (tables oldest_outgoing_tree) later.queue.items (is.queue tables h));
  replies = subst (IsPermutation (map four_cells (tables oldest_reply_tree))) (sym reply_rows) (again four_cells (λ cells. refl) (tables oldest_reply_tree) later.replies.items (is.replies tables h));
  notices = subst (IsPermutation (map four_cells (tables oldest_notice_tree))) (sym notice_rows) (again four_cells (λ cells. refl) (tables oldest_notice_tree) later.notices.items (is.notices tables h));
  copies = refl;
}
  where
    empty : Tables
    empty = tables_before oldest_copy_tree tables

    queue_rows : moved later tables outgoing_tree ≡ map queue_columns later.queue.items
    queue_rows = joined_beside notice_tree four_cells outgoing_tree refl later.notices.items _ ∙ joined_beside reply_tree four_cells outgoing_tree refl later.replies.items _ ∙ joined_at outgoing_tree queue_columns later.queue.items (tables_before oldest_copy_tree tables) refl

    reply_rows : moved later tables reply_tree ≡ map four_cells later.replies.items
    reply_rows =
        joined_beside notice_tree four_cells reply_tree refl later.notices.items _ ∙ joined_at reply_tree four_cells later.replies.items _ refl
        ∙ ap (λ l. l ++ map four_cells later.replies.items) (joined_beside outgoing_tree queue_columns reply_tree refl later.queue.items (tables_before oldest_copy_tree tables))

    notice_rows : moved later tables notice_tree ≡ map four_cells later.notices.items
    notice_rows =
        joined_at notice_tree four_cells later.notices.items _ refl
        ∙ ap (λ l. l ++ map four_cells later.notices.items) (joined_beside reply_tree four_cells notice_tree refl later.replies.items _ ∙ joined_beside outgoing_tree queue_columns notice_tree refl later.queue.items (tables_before oldest_copy_tree tables))

is_cleared : (later : Later) (tables : Tables) → IsCleared (moved later tables) (restored later (tables_before oldest_copy_tree tables))
is_cleared later tables = record {
  versions = refl;
  accounts = refl;
  scripts = refl;
  queue = refl;
  replies = refl;
  notices = refl;
  messages = restored_beside message_tree refl refl refl later (tables_before oldest_copy_tree tables);
  filed = restored_beside copy_tree refl refl refl later (tables_before oldest_copy_tree tables);
}

-- what is found, and what is made of it
pub record Remade (rows : Vec Row Global) (later : Later) (old new : Database) : Type 0 where
  pub copies : (tables : Tables) → HoldsTables oldest_schema old tables → IsPermutation (map old_cells (tables oldest_copy_tree)) rows.items
  pub rest : AreLater later old old
  pub holds : (tables : Tables) → HoldsTables oldest_schema old tables → HoldsTables mail_schema new (restored later (tables_before oldest_copy_tree tables))

pub remade : (rows : Vec Row Global) (later : Later) (old first second third new : Database) → AreOldCopies rows old first → AreLater later first second → RemakesAll second third → TurnsRows (restored later) third new → Remade rows later old new
remade rows later old first second third new copies is remakes restores = record {
  copies = copies.fourth;
  rest = record { same = λ _. refl; queue = λ tables h. is.queue tables (at_first tables h); replies = λ tables h. is.replies tables (at_first tables h); notices = λ tables h. is.notices tables (at_first tables h) };
  holds = λ tables h. restores (tables_before oldest_copy_tree tables) (remakes tables (subst (λ d. HoldsTables oldest_schema d tables) (sym (is.same (at_first tables h).is)) (at_first tables h)));
}
  where
    at_first : (tables : Tables) → HoldsTables oldest_schema old tables → HoldsTables oldest_schema first tables
    at_first tables h = subst (λ d. HoldsTables oldest_schema d tables) (sym (copies.same (inr h.is))) h

pub turns_newest : (rows : Vec Row Global) (later : Later) (old between new : Database) → Remade rows later old between → TurnsRows (λ tables. renewed (filled rows.items tables)) between new → TurnsNewest old new
turns_newest rows later old between new is refilled tables h = (
  moved later tables,
  renewed (filled rows.items (restored later (tables_before oldest_copy_tree tables))),
  is_moved later old tables h old is.rest,
  migrated (moved later tables) (restored later (tables_before oldest_copy_tree tables)) rows.items (is_cleared later tables) (is.copies tables h),
  refilled (restored later (tables_before oldest_copy_tree tables)) (is.holds tables h),
)
