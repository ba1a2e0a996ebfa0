-- What a DROP TABLE makes of a database: the other tables hold what they held.
use Rattle.std.proofs.Common.{◌≡◌, ℕ, false, List, [], slice_get, Some, Ok, sym, ap, ◌∙◌, subst}
use Rattle.sqlite_schema.specs.declared.schema.Keys.TheVariants.{Enforced}
use Rattle.sqlite_schema.specs.declared.schema.Table.{Table}
use Rattle.sqlite_schema.specs.declared.schema.Schema.{Schema}
use Rattle.sqlite_schema.specs.declared.command.Command.TheVariants.{DropTable}
use Rattle.sqlite_schema.specs.Rules.{Fits}
use Rattle.sqlite_rules.proofs.ListLemmas.{all_has, has_filtered}
use Rattle.sqlite_rules.proofs.RuleLemmas.{fits_obeyed}
use Rattle.sqlite_catalog.specs.Change.{without_table}
use Rattle.sqlite.specs.Effect.{Database}
use Rattle.sqlite.specs.Does.{Tally, AtPlace, Drops, Empties, Uncounts, is_acted_on}
use Rattle.sqlite.specs.Rows.{Task}
use Rattle.sqlite_trees.specs.Tree.{Trees}
use Rattle.sqlite.specs.Listing.{understood}
use Rattle.sqlite.specs.State.{State, Executes, mode_of}
use Rattle.sqlite.proofs.Callers.{IsPlain, command_of, runs_as}
use Rattle.store_tables.specs.Rows.{IsHeld}
use Rattle.store_tables.proofs.StepLemmas.{went, same_value}
use Rattle.store_versions.specs.Inside.{LosesTable}

-- nothing acts, and nothing is counted
quiet : (task : Task) (db after : Trees) → is_acted_on task.schema task.keys task.table ≡ false → Empties task db (Ok after) → after ≡ db
quiet task db after acted h = same_value (rw acted at h)

uncounts : (task : Task) (db after : Trees) → task.table.is_counted ≡ false → Uncounts task db (Ok after) → after ≡ db
uncounts task db after uncounted h = same_value (rw uncounted at h)

module _ (schema : Schema) (sql : List ℕ) (at : ℕ) (table : Table) (there : slice_get schema.tables at ≡ Some table) (is : command_of (understood schema sql) ≡ DropTable at) (plain : IsPlain (understood schema sql))
    (acted : is_acted_on schema Enforced table ≡ false) (uncounted : table.is_counted ≡ false) where
  pub drops : (old new : State) (count : ℕ) → Executes sql [] old new (Ok count) → LosesTable schema (without_table schema table.tree) old.now new.now
  drops old new count ran tables h =
      let w = runs_as sql [] old new schema h.is (DropTable at) is plain count ran in
      let placed = subst (λ (s : Schema). AtPlace (λ t. Drops (record { limit = old.step_limit; keys = Enforced; schema = s; table = t; params = [] }) (mode_of old) old.now.trees) (slice_get s.tables at) (Ok (w.tally, new.now))) h.is w.changed in
      let all = went (subst (λ o. AtPlace (λ t. Drops (record { limit = old.step_limit; keys = Enforced; schema = schema; table = t; params = [] }) (mode_of old) old.now.trees) o (Ok (w.tally, new.now))) there placed) in
      let task : Task = record { limit = old.step_limit; keys = Enforced; schema = schema; table = table; params = [] } in
      let emptied = quiet task old.now.trees all.0 acted all.1 in
      let counted = went all.2 in
      let same = uncounts task all.0 counted.0 uncounted counted.1 in
      let left = went (went counted.2).2 in
      let now : new.now ≡ left.0 = ap (λ (p : Tally × Database). p.1) (same_value left.2) in
      let next : new.now.schema ≡ without_table schema table.tree = ap (λ (d : Database). d.schema) now ∙ left.1.0 in
      record {
        is = next;
        fits = subst (λ s. Fits s new.now.trees) next (fits_obeyed new.now.schema new.now.trees w.sound.obeys);
        each = λ t listed.
            let rows = ap (λ (d : Database). d.trees t.tree) now ∙ all_has _ (without_table schema table.tree).tables t left.1.1 listed ∙ ap (λ (trees : Trees). trees t.tree) (same ∙ emptied) in
            subst (λ r. IsHeld r (tables t.tree)) (sym rows) (h.each t (has_filtered _ schema.tables t listed).0);
      }
