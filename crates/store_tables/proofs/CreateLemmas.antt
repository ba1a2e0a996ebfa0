-- What a CREATE TABLE makes of a schema, and CREATE INDEX of the copies.
use Rattle.std.proofs.Common.{◌≡◌, ◌≤◌, arith, ℕ, true, false, IsTrue, List, [], ◌∷◌, map, slice_get, None, Ok, Err, Result, OnOk, refl, sym, ap, ◌∙◌, subst, inl, inr}
use Rattle.std.specs.List.{AllByRecursion}
use Rattle.sqlite_value.specs.Order.{Row}
use Rattle.sqlite_trees.specs.Tree.{Trees}
use Rattle.sqlite_schema.specs.declared.schema.Table.{Table}
use Rattle.sqlite_schema.specs.declared.schema.Schema.{Schema}
use Rattle.sqlite_schema.specs.declared.command.Command.TheVariants.{CreateTable, CreateIndex}
use Rattle.sqlite_schema.specs.Rules.{Fits}
use Rattle.sqlite_rules.proofs.ListLemmas.{all_has, has_either}
use Rattle.sqlite_rules.proofs.RuleLemmas.{fits_obeyed}
use Rattle.sqlite_catalog.specs.Change.{created, indexed, next_tree, KeepsRows}
use Rattle.sqlite_resolve.specs.Compile.{table_defined_by}
use Rattle.sqlite.specs.Effect.{Database}
use Rattle.sqlite.specs.Does.{Tally, lacks_sequence, Defines, MakesIndex as IndexMade, AtPlace}
use Rattle.sqlite.specs.Listing.{understood}
use Rattle.sqlite.specs.declared.error.Error.{Error}
use Rattle.sqlite.specs.declared.transaction.Transaction.{Transaction}
use Rattle.sqlite.specs.State.{State, HasCleanDisk, Survives, Writes, Executes, KeepsCommit, Shows, mode_of}
use Rattle.sqlite.specs.Held.{Held, state}
use Rattle.sqlite_trees.specs.declared.store.Store.{Ghosts}
use Rattle.sqlite.proofs.StateLemmas.{survives_then}
use Rattle.sqlite.proofs.Callers.{IsPlain, command_of, statement_of, runs_as, survives_begin}
use Rattle.sqlite.proofs.InsideLemmas.{keeps_then}
use Rattle.store_tables.specs.Rows.{Entry, IsHeld, Tables, HoldsTables, cells_of, stored, row_added}
use Rattle.store_tables.proofs.StepLemmas.{went, same_value}
use Rattle.store_tables.specs.Schema.{no_schema, the_tables, mail_schema, schema_8}
use Rattle.store_tables.specs.Connection.{no_rows, RunsInside, Makes, TurnsRows, TurnsSchema, ChangesRows, MakesTables}
use Rattle.store_tables.specs.MetaTable.{version_row, meta_tree}
use Rattle.store_tables.specs.CopyTable.{copy, copy_message, create_copy_message}
use Rattle.store_tables.specs.Ours.{TurnsOurs, MakesOurs, MayCreate}
use Rattle.store_tables.proofs.ResultLemmas.{on_ok}
use Rattle.store_tables.proofs.WriteLemmas.{MakesInside, clean_before}
use Rattle.store_tables.proofs.SchemaFacts.{copy_message_defined, copy_message_creates, copy_message_added}

nothing_held : (rows : List Row) → rows ≡ [] → IsHeld rows []
nothing_held rows none = record { entries = []; keyed = tt; rows_are = none; cells_are = refl }

module _ (schema : Schema) (sql : List ℕ) (table : Table) (defined : table_defined_by sql ≡ Ok table) (is : command_of (understood schema sql) ≡ CreateTable)
    (text : statement_of sql (understood schema sql) ≡ sql) (plain : IsPlain (understood schema sql)) (uncounted : lacks_sequence (created schema table) ≡ false) where
  pub creates : (old new : State) (count : ℕ) → Executes sql [] old new (Ok count) → TurnsSchema schema (created schema table) old.now new.now
  creates old new count ran tables h blank =
      let w = subst (λ t. Writes old new None CreateTable t [] count) text (runs_as sql [] old new schema h.is CreateTable is plain count ran) in
      let all = went w.changed in
      let first = went all.1 in
      let made = first.1 in
      let both : Ok made.table ≡ Ok table = sym made.defined ∙ defined in
      let same : made.table ≡ table = cc in
      let now_schema : first.0.schema ≡ created schema table = made.is ∙ ap (λ s. created s made.table) h.is ∙ ap (created schema) same in
      let lacks : lacks_sequence first.0.schema ≡ false = ap lacks_sequence now_schema ∙ uncounted in
      let now : new.now ≡ first.0 = ap (λ (p : Tally × Database). p.1) (same_value all.2) ∙ same_value (rw lacks at first.2) in
      let next : new.now.schema ≡ created schema table = ap (λ (d : Database). d.schema) now ∙ now_schema in
      let fits = subst (λ s. Fits s new.now.trees) next (fits_obeyed new.now.schema new.now.trees w.sound.obeys) in
      let fresh : new.now.trees (next_tree schema) ≡ [] = ap (λ (d : Database). d.trees (next_tree schema)) now ∙ subst (λ s. first.0.trees (next_tree s) ≡ []) h.is made.empty in
      let others = subst (λ s. AllByRecursion (λ (t : Table). first.0.trees t.tree ≡ old.now.trees t.tree) s.tables) h.is made.others in
      record {
        is = next;
        fits = fits;
        each = λ t listed. elim (has_either schema.tables (record table { tree = next_tree schema } ∷ []) t listed) [
          | inl before ↦ subst (λ rows. IsHeld rows (tables t.tree)) (sym (ap (λ (d : Database). d.trees t.tree) now ∙ all_has _ schema.tables t others before)) (h.each t before)
          | inr last ↦ elim last [
            | inl it ↦ subst (λ n. IsHeld (new.now.trees n) (tables n)) (sym (ap (λ (x : Table). x.tree) it)) (subst (IsHeld (new.now.trees (next_tree schema))) (sym (blank (next_tree schema) (omega arith))) (nothing_held _ fresh))
            | inr none ↦ absurd none
          ]
        ];
      }

-- an empty database holds no rows
pub starts_empty : (db : Database) → db.schema ≡ no_schema → HoldsTables no_schema db no_rows
starts_empty db is = record { is = is; fits = record { rules = λ rule other. tt; indexed = tt }; each = λ t none. absurd none }

-- one step after another
then_makes : {X Y : Type 0} (T U V : Database → Database → Type 0) → ((a b c : Database) → T a b → U b c → V a c) → (a b c : State) (r : Result X Error) (x : X) (q : Result Y Error) → r ≡ Ok x → Survives b c (λ _. ⊥)
    → MakesInside T a b r → MakesInside U b c q → MakesInside V a c q
then_makes {Y = Y} T U V both a b c r x q ok survives one two clean inside = go q (two clean first.1.mode)
  where
    begun : KeepsCommit a b × OnOk r (T a.now b.now × Shows a b b.now a.committed true)
    begun = one (clean_before b c (λ _. ⊥) survives clean) inside

    first : T a.now b.now × Shows a b b.now a.committed true
    first = on_ok r x ok _ begun.1

    go : (p : Result Y Error) → KeepsCommit b c × OnOk p (U b.now c.now × Shows b c c.now b.committed true) → KeepsCommit a c × OnOk p (V a.now c.now × Shows a c c.now a.committed true)
    go (Err e) h = (keeps_then a b c begun.0 h.0, tt)
    go (Ok y) h = (
      keeps_then a b c begun.0 h.0,
      (both a.now b.now c.now first.0 h.1.0, record { was_open = first.1.was_open; is_open = h.1.1.is_open; now_is = refl; committed_is = h.1.1.committed_is ∙ first.1.committed_is; mode = h.1.1.mode }),
    )

-- the same of what the statements of a transaction promise
pub inside_then : {S X Y : Type 0} (g : Ghosts S) (T U V : Database → Database → Type 0) → ((a b c : Database) → T a b → U b c → V a c) → (a b c : Transaction S) (r : Result X Error) (x : X) (q : Result Y Error) → r ≡ Ok x
    → RunsInside g (Makes T) a b r → RunsInside g (Makes U) b c q → RunsInside g (Makes V) a c q
inside_then g T U V both a b c r x q ok one two = record {
  same_reference = two.same_reference ∙ one.same_reference;
  made = then_makes T U V both (state g a.conn.now) (state g b.conn.now) (state g c.conn.now) r x q ok two.survives one.made two.made;
  survives = survives_then (state g a.conn.now) (state g b.conn.now) (state g c.conn.now) _ _ _ (λ _ db none. none) (λ _ db none. none) one.survives two.survives;
}

-- and a refusal after them
pub inside_failed : {S X Y : Type 0} (g : Ghosts S) (T V : Database → Database → Type 0) (a b : Transaction S) (r : Result X Error) (e : Error) (q : Result Y Error) → q ≡ Err e → RunsInside g (Makes T) a b r
    → RunsInside g (Makes V) a b q
inside_failed g T V a b r e q is one = record {
  same_reference = one.same_reference;
  made = λ clean inside. ((one.made clean inside).0, subst (λ o. OnOk o (V (state g a.conn.now).now (state g b.conn.now).now × Shows (state g a.conn.now) (state g b.conn.now) (state g b.conn.now).now (state g a.conn.now).committed true)) (sym is) tt);
  survives = one.survives;
}

-- one table after another
pub makes_then : {S X Y : Type 0} (g : Ghosts S) (a b c : Transaction S) (s t u : Schema) (r : Result X Error) (x : X) (q : Result Y Error) → r ≡ Ok x → next_tree s ≤ next_tree t → MakesTables g s t a b r → MakesTables g t u b c q
    → MakesTables g s u a c q
makes_then g a b c s t u r x q ok up one two =
    inside_then g (TurnsSchema s t) (TurnsSchema t u) (TurnsSchema s u) (λ _ _ _ first second tables held blank. second tables (first tables held blank) (λ tree from. blank tree (omega (arith, up, from)))) a b c r x q ok one two

-- and a refusal after them
pub makes_failed : {S X Y : Type 0} (g : Ghosts S) (a b : Transaction S) (s t u : Schema) (r : Result X Error) (e : Error) (q : Result Y Error) → q ≡ Err e → MakesTables g s t a b r → MakesTables g s u a b q
makes_failed g a b s t u r e q is one = inside_failed g (TurnsSchema s t) (TurnsSchema s u) a b r e q is one

-- all tables, and then the row of the version
pub ours_then : {S X Y : Type 0} (g : Ghosts S) (a b c : Transaction S) (r : Result X Error) (x : X) (q : Result Y Error) → r ≡ Ok x → MakesTables g no_schema mail_schema a b r → ChangesRows g (row_added meta_tree version_row) b c q → MakesOurs g a c q
ours_then g a b c r x q ok tables version =
    inside_then g (TurnsSchema no_schema mail_schema) (TurnsRows (row_added meta_tree version_row)) TurnsOurs (λ old mid new first second blank. second no_rows (first no_rows (starts_empty old blank) (λ _ _. refl))) a b c r x q ok tables version

-- and the commit
module _ {X : Type 0} (Turned : Database → Database → Type 0) (old last : State) (r : Result X Error) (x : X) (ok : r ≡ Ok x) (inside : IsTrue old.in_transaction) (makes : MakesInside Turned old last r) where
  pub ready : HasCleanDisk last → Turned old.now last.now
  ready clean = (on_ok r x ok _ (makes clean inside).1).0

  pub all_made : {Z : Type 0} (new : State) (done : Result Z Error) (P Q : Type 0) (R : Trees → Type 0) → Survives last new R → (HasCleanDisk new → OnOk done (IsTrue last.in_transaction × Shows last new last.now last.now false × P × Q))
      → HasCleanDisk new → OnOk done (Turned old.now new.now)
  all_made new (Err e) P Q R s commit clean = tt
  all_made new (Ok z) P Q R s commit clean = subst (Turned old.now) (sym (commit clean).1.now_is) (ready (clean_before last new R s clean))

-- what a crash leaves of the transaction and its commit
pub creates_all : {S X : Type 0} (g : Ghosts S) (old : Held S) (last end : State) (r : Result X Error) (x : X) → r ≡ Ok x → MakesInside TurnsOurs (state g (record old { in_transaction = true })) last r
    → Survives (state g (record old { in_transaction = true })) last (λ _. ⊥) → Survives last end (λ db. db ≡ last.now.trees) → Survives (state g old) end (MayCreate (state g old))
creates_all g old last end r x ok makes inside commit =
    survives_then (state g old) last end _ _ _ (λ _ db none. absurd none)
    (λ clean db is blank. (last.now, ready TurnsOurs (state g (record old { in_transaction = true })) last r x ok refl makes (clean_before last end _ commit clean) blank, is)) (survives_begin g old last _ inside) commit

-- what a crash leaves of a transaction and its commit, whatever it turned
pub turns_all : {S X : Type 0} (g : Ghosts S) (Turned : Database → Database → Type 0) (old : Held S) (last end : State) (r : Result X Error) (x : X) → r ≡ Ok x → MakesInside Turned (state g (record old { in_transaction = true })) last r
    → Survives (state g (record old { in_transaction = true })) last (λ _. ⊥) → Survives last end (λ db. db ≡ last.now.trees) → Survives (state g old) end (λ trees. (db : Database) × Turned (state g old).now db × (trees ≡ db.trees))
turns_all g Turned old last end r x ok makes inside commit =
    survives_then (state g old) last end _ _ _ (λ _ db none. absurd none)
    (λ clean db is. (last.now, ready Turned (state g (record old { in_transaction = true })) last r x ok refl makes (clean_before last end _ commit clean), is)) (survives_begin g old last _ inside) commit

-- ---- the index of the copies by their messages

pub makes_index : (old new : State) (count : ℕ) → Executes create_copy_message [] old new (Ok count) → TurnsSchema schema_8 mail_schema old.now new.now
makes_index old new count ran tables h blank =
    let w = subst (λ t. Writes old new None (CreateIndex 7) t [] count) copy_message_creates.1 (runs_as create_copy_message [] old new schema_8 h.is (CreateIndex 7) copy_message_creates.0 copy_message_creates.2 count ran) in
    let at_copy = subst (λ (s : Schema). AtPlace (λ t. Defines (mode_of old) (IndexMade create_copy_message old.now t)) (slice_get s.tables 7) (Ok (w.tally, new.now))) h.is w.changed in
    let all = went at_copy in
    let made = all.1 in
    let both : Ok made.index ≡ Ok (record copy_message { tree = 0 }) = sym made.defined ∙ copy_message_defined in
    let same : made.index ≡ record copy_message { tree = 0 } = cc in
    let is : all.0.schema ≡ mail_schema = made.is ∙ ap (λ s. indexed s copy made.index) h.is ∙ ap (indexed schema_8 copy) same ∙ copy_message_added in
    let now : new.now ≡ all.0 = ap (λ (p : Tally × Database). p.1) (same_value all.2) in
    let next : new.now.schema ≡ mail_schema = ap (λ (d : Database). d.schema) now ∙ is in
    let rows = subst (λ (d : Database). KeepsRows the_tables old.now.trees d.trees) (sym now) (subst (λ (s : Schema). KeepsRows s.tables old.now.trees all.0.trees) h.is made.rows) in
    record {
      is = next;
      fits = subst (λ s. Fits s new.now.trees) next (fits_obeyed new.now.schema new.now.trees w.sound.obeys);
      each = λ t listed. subst (λ r. IsHeld r (tables t.tree)) (sym (all_has (λ (x : Table). new.now.trees x.tree ≡ old.now.trees x.tree) the_tables t rows listed)) (h.each t listed);
    }
