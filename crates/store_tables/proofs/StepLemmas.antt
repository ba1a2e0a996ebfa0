-- What an INSERT of one row, and an UPDATE or a DELETE by key, make of the tables.
use Rattle.std.proofs.Common.{◌≡◌, ◌≢◌, ◌⊎◌, ℕ, suc, ◌/◌, ℤ, true, List, [], ◌∷◌, ◌++◌, map, filter, length, drop, slice_get, None, Some, Result, Ok, Err, refl, sym, ap, ◌∙◌, subst, inl, inr, eq-eqb, ne_eqb, append-nil, Bool, IsPermutation}
use Rattle.std.specs.List.{AllByRecursion, list_all}
use Rattle.std.proofs.lemmas.Bool.{cases_eq}
use Rattle.sqlite_value.specs.declared.value.Value.TheVariants.{Null, Int}
use Rattle.sqlite_value.specs.Order.{Row}
use Rattle.sqlite_trees.specs.Tree.{Trees, rowid, put_row, with_tree}
use Rattle.sqlite_sql.specs.Term.{Term, lit, col, holds, eval_all}
use Rattle.sqlite_sql.specs.Query.{IsAnswer, Output, output}
use Rattle.std.proofs.lemmas.List.Sorted.{IsPermutation-map}
use Rattle.sqlite_sql.specs.Program.{overlay}
use Rattle.sqlite_schema.specs.declared.program.Program.{Program}
use Rattle.sqlite_schema.specs.declared.schema.Keys.TheVariants.{Enforced}
use Rattle.sqlite_schema.specs.declared.schema.Column.{Column}
use Rattle.sqlite_schema.specs.declared.schema.Reference.{Reference}
use Rattle.sqlite_schema.specs.declared.schema.Table.{Table}
use Rattle.sqlite_schema.specs.declared.schema.Index.{Index}
use Rattle.sqlite_schema.specs.declared.schema.Schema.{Schema}
use Rattle.sqlite_schema.specs.declared.command.Source.{Source}
use Rattle.sqlite_schema.specs.declared.command.Source.TheVariants.{Values}
use Rattle.sqlite_schema.specs.declared.command.Command.{Command}
use Rattle.sqlite_schema.specs.declared.command.Command.TheVariants.{Insert, Update, Delete}
use Rattle.sqlite_schema.specs.Rules.{agree, guards}
use Rattle.sqlite_rules.specs.declared.error.Rowids.TheVariants.{Chosen, Given}
use Rattle.sqlite_rules.specs.Lists.{Has}
use Rattle.sqlite_rules.specs.Cast.{cast_all, cast_row}
use Rattle.sqlite_rules.specs.Calls.{ids_of}
use Rattle.sqlite_rules.specs.Edit.{Edit, edit_of, edited, numbered, taken_by, id_in, next_rowid, put_all, without_all, Applies}
use Rattle.sqlite_rules.specs.Action.{works}
use Rattle.sqlite_rules.proofs.ListLemmas.{all_has, has_filtered}
use Rattle.sqlite_keyed.specs.Lists.{update_where, delete_where}
use Rattle.sqlite_keyed.proofs.ListLemmas.{map-map}
use Rattle.sqlite.specs.Effect.{Database, value_rows}
use Rattle.sqlite.specs.Rows.{Task, Edited, Written}
use Rattle.sqlite.specs.Does.{Tally, OnRows, Concludes, Does, AtPlace}
use Rattle.sqlite.specs.declared.run.Mode.{Mode}
use Rattle.sqlite.specs.Listing.{understood}
use Rattle.sqlite.specs.State.{State, mode_of, Executes}
use Rattle.sqlite.proofs.Callers.{IsPlain, command_of, statement_of, runs_as, one_step}
use Rattle.store_tables.specs.Forms.{keyed, over_table}
use Rattle.store_tables.specs.Rows.{Entry, id_of, cells_of, stored, IsHeld, Tables, HoldsTables, has_key, row_added, rows_removed, removed_where, set_in}
use Rattle.store_tables.proofs.CellLemmas.{cast_null, cast_int, changed, held_insert, held_delete, held_delete_all, held_update}
use Rattle.store_tables.proofs.AnswerLemmas.{has_map, entries_some, found_by_key}

-- a part that gave a value did not stop on the way
pub went : {B E R : Type 0} {b : B} {Stops : E → Type 0} → ((stop : E) × Stops stop × (Ok b ≡ Err stop)) ⊎ R → R
went (inl stopped) = absurd (let e = stopped.2 in cc)
went (inr on) = on

pub same_value : {B E : Type 0} {a b : B} → ◌≡◌ {A = Result B E} (Ok a) (Ok b) → a ≡ b
same_value e = cc

map_same_on : {X Y : Type 0} (f g : X → Y) (xs : List X) → ((x : X) → Has xs x → f x ≡ g x) → map f xs ≡ map g xs
map_same_on f g [] same = refl
map_same_on f g (x ∷ xs) same = rw (same x (inl refl)) (ap (λ l. g x ∷ l) (map_same_on f g xs (λ y h. same y (inr h))))

given_rowids : (rows news : List Row) → numbered Given rows news ≡ news
given_rowids rows [] = refl
given_rowids rows (r ∷ news) = ap (λ l. r ∷ l) (given_rowids (put_row r rows) news)

concluded : (task : Task) (mode : Mode) (w : Written) (tally : Tally) (now : Database) → Concludes task mode None w (Ok (tally, now)) → now ≡ record { schema = task.schema; trees = w.trees }
concluded task mode w tally now h = ap (λ (p : Tally × Database). p.1) (same_value (went (went h).2).2)

module _ (schema : Schema) (no_works : (depth tree : ℕ) (olds news : List Row) → works schema Enforced depth tree olds news ≡ []) where
  stepped : (db next : Trees) (edit : Edit) → Edited schema Enforced db edit (Ok next) → Applies schema Enforced db edit next
  stepped db next edit w = one_step schema Enforced db next edit (no_works 0 edit.table.tree (taken_by db edit) edit.news) w

  held_beside : (tables : Tables) (tree : ℕ) (cells : List Row) (db next : Trees) → ((t : Table) → Has schema.tables t → IsHeld (db t.tree) (tables t.tree)) → IsHeld (next tree) cells
      → AllByRecursion (λ t. t.tree ≢ tree → next t.tree ≡ db t.tree) schema.tables → (t : Table) → Has schema.tables t → IsHeld (next t.tree) (with_tree tables tree cells t.tree)
  held_beside tables tree cells db next each here others t listed = elim (cases_eq t.tree tree) [
    | inl same ↦ rw (eq-eqb t.tree tree same) (subst (λ n. IsHeld (next n) cells) (sym same) here)
    | inr other ↦ rw (ne_eqb t.tree tree other) (subst (λ rows. IsHeld rows (tables t.tree)) (sym (all_has _ schema.tables t others listed other)) (each t listed))
  ]

  after : (tables : Tables) (old now : Database) (edit : Edit) (next : Trees) (cells : List Row) → HoldsTables schema old tables → Applies schema Enforced old.trees edit next
      → now ≡ record { schema = schema; trees = next } → IsHeld (edited old.trees edit) cells → HoldsTables schema now (with_tree tables edit.table.tree cells)
  after tables old now edit next cells h applies is held =
      let here = subst (λ rows. IsHeld rows cells) (sym applies.rows) held in
      subst (λ (d : Database). HoldsTables schema d (with_tree tables edit.table.tree cells)) (sym is)
      (record { is = refl; fits = applies.fits; each = held_beside tables edit.table.tree cells old.trees next h.each here applies.tables })

  abbrev with_trees : Trees → Database
  with_trees trees = record { schema = schema; trees = trees }

  abbrev pub On : Table → Row → State → State → Command → Tally → Type 0
  On it params old new command tally = OnRows (record { limit = old.step_limit; keys = Enforced; schema = schema; table = it; params = params }) (mode_of old) None command old.now.trees (Ok (tally, new.now))

  module _ (name : List ℕ) (tree : ℕ) (primary : List ℕ) (references : List Reference) (columns : List Column) (params : Row) (old new : State) (tables : Tables) (h : HoldsTables schema old.now tables)
      (listed : Has schema.tables (keyed name tree primary references columns)) where
    abbrev it : Table
    it = keyed name tree primary references columns

    abbrev task : Task
    task = record { limit = old.step_limit; keys = Enforced; schema = schema; table = it; params = params }

    inserted : (rows : List Row) (cells : Row) → cast_all columns cells ≡ cells → put_all (without_all rows []) (numbered Chosen (without_all rows []) (map (λ s. cast_row it (drop 0 s)) ((Null ∷ cells) ∷ [])))
        ≡ put_row (Int (next_rowid rows) ∷ cells) rows
    inserted rows cells fits = rw (cast_null, fits)

    pub insert_holds : (at : ℕ) (terms : List Term) (width : ℕ) (cells : Row) (tally : Tally) → value_rows params width (suc (length terms) / width) (lit Null ∷ terms) ≡ (Null ∷ cells) ∷ []
        → cast_all columns cells ≡ cells → On it params old new (Insert at (Values (lit Null ∷ terms) width)) tally → HoldsTables schema new.now (row_added tree cells tables)
    insert_holds at terms width cells tally values fits on =
        let db = old.now.trees in
        let done = went on in
        let given = went done.1 in
        let counter = went given.2 in
        let written = went counter.2 in
        let counted = went written.2 in
        let e : Edit = edit_of db it [] Chosen 0 given.0 in
        let made = given.1.1 ∙ ap (λ p. value_rows p width (suc (length terms) / width) (lit Null ∷ terms)) (append-nil params) ∙ values in
        let trees : done.0.trees ≡ written.0 = ap (λ (w : Written). w.trees) (same_value counted.2) ∙ same_value counted.1 in
        let applies = stepped db written.0 e written.1 in
        let now = concluded task (mode_of old) done.0 tally new.now done.2 ∙ ap with_trees trees in
        let rows : edited db e ≡ put_row (Int (next_rowid (db tree)) ∷ cells) (db tree) = ap (λ all. edited db (edit_of db it [] Chosen 0 all)) made ∙ inserted (db tree) cells fits in
        after tables old.now new.now e written.0 (tables tree ++ cells ∷ []) h applies now (subst (λ r. IsHeld r (tables tree ++ cells ∷ [])) (sym rows) (held_insert (db tree) (tables tree) cells (h.each it listed)))

    -- a DELETE of all rows that pass
    module _ (p : Row → Bool) (terms : List Term) (meets : (n : ℤ) (cells : Row) → list_all (holds (params ∷ (Int n ∷ cells) ∷ [])) terms ≡ p cells) where
      pub delete_all_holds : (at : ℕ) (tally : Tally) → On it params old new (Delete at (over_table tree terms (col 1 0 ∷ []) [])) tally → HoldsTables schema new.now (removed_where tree p tables)
      delete_all_holds at tally on =
          let db = old.now.trees in
          let done = went on in
          let given = went done.1 in
          let written = went given.2 in
          let e : Edit = edit_of db it (ids_of given.0) Given 0 [] in
          let trees : done.0.trees ≡ written.0 = ap (λ (w : Written). w.trees) (same_value written.2) in
          let applies = stepped db written.0 e written.1 in
          let now = concluded task (mode_of old) done.0 tally new.now done.2 ∙ ap with_trees trees in
          let some = entries_some db tree terms (col 1 0 ∷ []) [] params (tables tree) (h.each it listed) p meets given.0 (given.1.answer Null) in
          let passing = filter (λ e. p (cells_of e)) (h.each it listed).entries in
          let number = λ (o : Output). id_in (rowid o.1) in
          let found : map number (map (λ e. output (over_table tree terms (col 1 0 ∷ []) []).body (params ∷ stored e ∷ [])) passing) ≡ map id_of passing = map-map number _ passing in
          let ids : ids_of given.0 ≡ map number some.0 = ap ids_of some.2 ∙ map-map _ (λ (o : Output). o.1) some.0 in
          let same : IsPermutation (map id_of passing) (ids_of given.0) =
          subst (λ l. IsPermutation (map id_of passing) l) (sym ids) (subst (λ l. IsPermutation l (map number some.0)) found (IsPermutation-map number _ some.0 some.1)) in
          after tables old.now new.now e written.0 (delete_where p (tables tree)) h applies now (held_delete_all (db tree) (tables tree) p (ids_of given.0) (h.each it listed) same)

    module _ (index : Index) (indexed : Has schema.indexes index) (guarding : guards index it ≡ true) (key : Row) (places : List ℕ)
        (agrees : (n : ℤ) (cells : Row) → has_key key cells ≡ true → agree index.order index.columns (Int n ∷ cells) places key ≡ true) (terms : List Term)
        (meets : (n : ℤ) (cells : Row) → list_all (holds (params ∷ (Int n ∷ cells) ∷ [])) terms ≡ has_key key cells) where
      abbrev found : List Entry
      found = filter (λ e. has_key key (cells_of e)) (h.each it listed).entries

      asked : (project : List Term) (rows : List Row) → IsAnswer (over_table tree terms project []).body (overlay old.now.trees []) params rows → rows ≡ map (λ e. eval_all project (params ∷ stored e ∷ [])) found
      asked project rows a = found_by_key schema it listed index indexed guarding key places agrees old.now.trees h.fits (tables tree) (h.each it listed) terms params meets project [] rows a

      pub delete_holds : (at : ℕ) (tally : Tally) → On it params old new (Delete at (over_table tree terms (col 1 0 ∷ []) [])) tally → HoldsTables schema new.now (rows_removed tree key tables)
      delete_holds at tally on =
          let db = old.now.trees in
          let done = went on in
          let given = went done.1 in
          let written = went given.2 in
          let e : Edit = edit_of db it (ids_of given.0) Given 0 [] in
          let trees : done.0.trees ≡ written.0 = ap (λ (w : Written). w.trees) (same_value written.2) in
          let applies = stepped db written.0 e written.1 in
          let now = concluded task (mode_of old) done.0 tally new.now done.2 ∙ ap with_trees trees in
          let rows = asked (col 1 0 ∷ []) given.0 (given.1.answer Null) in
          let ids : ids_of given.0 ≡ map id_of found = ap ids_of rows ∙ map-map _ (λ (x : Entry). eval_all (col 1 0 ∷ []) (params ∷ stored x ∷ [])) found in
          after tables old.now new.now e written.0 (delete_where (has_key key) (tables tree)) h applies now (held_delete (db tree) (tables tree) (has_key key) (ids_of given.0) (h.each it listed) ids)

      module _ (f : Row → Row) (fits : (cells : Row) → Has (tables tree) cells → cast_all columns (f cells) ≡ f cells) (project : List Term)
          (sets : (n : ℤ) (cells : Row) → eval_all project (params ∷ (Int n ∷ cells) ∷ []) ≡ Int n ∷ Int n ∷ f cells) where
        found_cells : (e : Entry) → Has found e → Has (tables tree) (cells_of e)
        found_cells e there = subst (λ l. Has l (cells_of e)) (sym (h.each it listed).cells_are) (has_map cells_of _ e (has_filtered _ (h.each it listed).entries e there).0)

        cast_found : (rows : List Row) → rows ≡ map (λ e. eval_all project (params ∷ stored e ∷ [])) found → map (λ s. cast_row it (drop 1 s)) rows ≡ map stored (map (changed f) found)
        cast_found rows are =
            ap (map (λ s. cast_row it (drop 1 s))) are ∙ map-map (λ s. cast_row it (drop 1 s)) (λ (e : Entry). eval_all project (params ∷ stored e ∷ [])) found
            ∙ map_same_on _ (λ e. stored (changed f e)) found (λ e there. ap (λ s. cast_row it (drop 1 s)) (sets (id_of e) (cells_of e)) ∙ rw (cast_int, fits (cells_of e) (found_cells e there)))
            ∙ sym (map-map stored (changed f) found)

        pub update_holds : (at : ℕ) (tally : Tally) → On it params old new (Update at (over_table tree terms project [])) tally → HoldsTables schema new.now (set_in tree key f tables)
        update_holds at tally on =
            let db = old.now.trees in
            let done = went on in
            let given = went done.1 in
            let written = went given.2 in
            let e : Edit = edit_of db it (ids_of given.0) Given 1 given.0 in
            let trees : done.0.trees ≡ written.0 = ap (λ (w : Written). w.trees) (same_value written.2) in
            let applies = stepped db written.0 e written.1 in
            let now = concluded task (mode_of old) done.0 tally new.now done.2 ∙ ap with_trees trees in
            let rows = asked project given.0 (given.1.answer Null) in
            let ids : ids_of given.0 ≡ map id_of found = ap ids_of rows ∙ map-map _ (λ (x : Entry). eval_all project (params ∷ stored x ∷ [])) found
            ∙ map_same_on _ id_of found (λ x there. ap (λ r. id_in (rowid r)) (sets (id_of x) (cells_of x))) in
            let news = given_rowids (without_all (db tree) (ids_of given.0)) (map (λ s. cast_row it (drop 1 s)) given.0) ∙ cast_found given.0 rows in
            after tables old.now new.now e written.0 (update_where (has_key key) f (tables tree)) h applies now
            (held_update (db tree) (tables tree) (has_key key) f (ids_of given.0) e.news (h.each it listed) ids news)

-- From what ran to the statement's meaning at its table. A statement on rows is that with its command and its table.
module _ (schema : Schema) (sql : List ℕ) (params : Row) (old new : State) (tables : Tables) (h : HoldsTables schema old.now tables) (plain : IsPlain (understood schema sql)) (count : ℕ)
    (ran : Executes sql params old new (Ok count)) (at : ℕ) (table : Table) (there : slice_get schema.tables at ≡ Some table) where
  abbrev text : List ℕ
  text = statement_of sql (understood schema sql)

  at_table : (command : Command) (tally : Tally) → AtPlace (λ t. OnRows (record { limit = old.step_limit; keys = Enforced; schema = schema; table = t; params = params }) (mode_of old) None command old.now.trees) (slice_get schema.tables at) (Ok (tally, new.now))
      → OnRows (record { limit = old.step_limit; keys = Enforced; schema = schema; table = table; params = params }) (mode_of old) None command old.now.trees (Ok (tally, new.now))
  at_table command tally done =
      subst (λ o. AtPlace (λ t. OnRows (record { limit = old.step_limit; keys = Enforced; schema = schema; table = t; params = params }) (mode_of old) None command old.now.trees) o (Ok (tally, new.now))) there done

  pub on_insert : (from : Source) → command_of (understood schema sql) ≡ Insert at from
      → (tally : Tally) × OnRows (record { limit = old.step_limit; keys = Enforced; schema = schema; table = table; params = params }) (mode_of old) None (Insert at from) old.now.trees (Ok (tally, new.now))
  on_insert from is =
      let w = runs_as sql params old new schema h.is (Insert at from) is plain count ran in
      (w.tally, at_table (Insert at from) w.tally (subst (λ s. Does old.step_limit (mode_of old) params (record old.now { schema = s }) text None (Insert at from) (Ok (w.tally, new.now))) h.is w.changed))

  pub on_update : (q : Program) → command_of (understood schema sql) ≡ Update at q
      → (tally : Tally) × OnRows (record { limit = old.step_limit; keys = Enforced; schema = schema; table = table; params = params }) (mode_of old) None (Update at q) old.now.trees (Ok (tally, new.now))
  on_update q is =
      let w = runs_as sql params old new schema h.is (Update at q) is plain count ran in
      (w.tally, at_table (Update at q) w.tally (subst (λ s. Does old.step_limit (mode_of old) params (record old.now { schema = s }) text None (Update at q) (Ok (w.tally, new.now))) h.is w.changed))

  pub on_delete : (q : Program) → command_of (understood schema sql) ≡ Delete at q
      → (tally : Tally) × OnRows (record { limit = old.step_limit; keys = Enforced; schema = schema; table = table; params = params }) (mode_of old) None (Delete at q) old.now.trees (Ok (tally, new.now))
  on_delete q is =
      let w = runs_as sql params old new schema h.is (Delete at q) is plain count ran in
      (w.tally, at_table (Delete at q) w.tally (subst (λ s. Does old.step_limit (mode_of old) params (record old.now { schema = s }) text None (Delete at q) (Ok (w.tally, new.now))) h.is w.changed))
