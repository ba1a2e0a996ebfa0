-- Version 2: what is read of its copies, and what becomes of them.
use Rattle.std.proofs.Common.{◌≡◌, List, [], ◌∷◌, ◌++◌, map, Vec, IsPermutation, refl, sym, ap, ◌∙◌, subst, inl, inr}
use Rattle.std.specs.declared.alloc.Global.{Global}
use Rattle.std.proofs.lemmas.List.Sorted.{IsPermutation-map}
use Rattle.sqlite_value.specs.Order.{Row}
use Rattle.sqlite_keyed.specs.Lists.{delete_where}
use Rattle.sqlite_keyed.proofs.ListLemmas.{map-map, map_same}
use Rattle.sqlite_rules.specs.Lists.{Has}
use Rattle.sqlite_rules.proofs.ListLemmas.{all_has}
use Rattle.sqlite_schema.specs.declared.schema.Table.{Table}
use Rattle.sqlite.specs.Effect.{Database}
use Rattle.sqlite.specs.State.{State, Shown}
use Rattle.store_tables.specs.Rows.{Tables, HoldsTables, IsHeld, has_key}
use Rattle.store_tables.specs.Schema.{mail_schema, schema_7}
use Rattle.store_tables.specs.Connection.{TurnsRows, TurnsSchema}
use Rattle.store_tables.specs.MetaTable.{meta_tree, version_key, version_row}
use Rattle.store_tables.specs.AccountTable.{account_tree}
use Rattle.store_tables.specs.ScriptTable.{scripts_tree}
use Rattle.store_tables.specs.QueueTable.{outgoing_tree}
use Rattle.store_tables.specs.ReplyTable.{reply_tree}
use Rattle.store_tables.specs.NoticeTable.{notice_tree}
use Rattle.store_tables.specs.MessageTable.{message_tree}
use Rattle.store_tables.specs.CopyTable.{copy_tree}
use Rattle.store_versions.specs.OldSchema.{four_cells}
use Rattle.store_versions.specs.SecondSchema.{IsSecondSchema, second_copy, second_tables, second_schema, second_unindexed_schema, select_second_copies, flagless}
use Rattle.store_versions.specs.Migration.{LosesCopies, tables_before}
use Rattle.store_versions.specs.Third.{AreSecondCopies, RemakesCopies, IsThird, TurnsThird, flagged}
use Rattle.store_versions.proofs.OldFacts.{four_columns}
use Rattle.store_versions.proofs.SecondFacts.{second_names, selects_second, selects_unindexed}
use Rattle.store_versions.proofs.MigrationLemmas.{rows_listed, stays_seen, none_before}
use Rattle.store_versions.proofs.MovingLemmas.{joined_at, joined_beside}

-- ---- what is read

pub second_found : (old new : State) (rows : Vec Row Global) → Shown select_second_copies [] old new rows.items → AreSecondCopies rows old.now new.now
second_found old new rows shown = record {
  same = λ is. elim is [
    | inl indexed ↦ stays_seen second_schema select_second_copies second_copy four_columns second_names selects_second four_cells (λ n cells. refl) there old new indexed rows.items shown
    | inr lacks ↦ stays_seen second_unindexed_schema select_second_copies second_copy four_columns second_names selects_unindexed four_cells (λ n cells. refl) there old new lacks rows.items shown
  ];
  all = λ schema is tables h. elim is [
    | inl indexed ↦ rows_listed second_schema select_second_copies second_copy four_columns second_names selects_second four_cells (λ n cells. refl) there old new tables (subst (λ s. HoldsTables s old.now tables) indexed h) rows.items shown
    | inr lacks ↦ rows_listed second_unindexed_schema select_second_copies second_copy four_columns second_names selects_unindexed four_cells (λ n cells. refl) there old new tables (subst (λ s. HoldsTables s old.now tables) lacks h) rows.items shown
  ];
}
  where
    there : Has second_tables second_copy
    there = inr (inr (inr (inr (inr (inr (inr (inl refl)))))))

-- ---- the table is made anew

-- the tables before the copies are the same
held_before_copies : (db : Database) (tables : Tables) → HoldsTables schema_7 db tables → HoldsTables schema_7 db (tables_before copy_tree tables)
held_before_copies db tables h = record {
  is = h.is;
  fits = h.fits;
  each = λ t listed.
      subst (IsHeld (db.trees t.tree)) (sym (all_has (λ (x : Table). tables_before copy_tree tables x.tree ≡ tables x.tree) schema_7.tables t (refl, (refl, (refl, (refl, (refl, (refl, (refl, tt))))))) listed)) (h.each t listed);
}

pub remakes_copies : (old between new : Database) → LosesCopies old between → TurnsSchema schema_7 mail_schema between new → RemakesCopies old new
remakes_copies old between new loses makes schema is tables h = makes (tables_before copy_tree tables) (held_before_copies between tables (loses.second schema is tables h)) (none_before copy_tree tables)

-- ---- what becomes of the tables

is_third : (tables : Tables) (rows : List Row) → IsPermutation (map four_cells (tables copy_tree)) rows → IsThird tables (flagged rows (tables_before copy_tree tables))
is_third tables rows same = record {
  filed = subst (IsPermutation (map flagless (tables copy_tree))) (sym (joined_at copy_tree flagless rows (tables_before copy_tree tables) refl)) shown;
  version = ap (λ l. delete_where (has_key version_key) l ++ version_row ∷ []) (joined_beside copy_tree flagless meta_tree refl rows (tables_before copy_tree tables));
  accounts = joined_beside copy_tree flagless account_tree refl rows (tables_before copy_tree tables);
  scripts = joined_beside copy_tree flagless scripts_tree refl rows (tables_before copy_tree tables);
  queue = joined_beside copy_tree flagless outgoing_tree refl rows (tables_before copy_tree tables);
  replies = joined_beside copy_tree flagless reply_tree refl rows (tables_before copy_tree tables);
  notices = joined_beside copy_tree flagless notice_tree refl rows (tables_before copy_tree tables);
  messages = joined_beside copy_tree flagless message_tree refl rows (tables_before copy_tree tables);
}
  where
    shown : IsPermutation (map flagless (tables copy_tree)) (map flagless rows)
    shown =
        subst (λ l. IsPermutation l (map flagless rows)) (map-map flagless four_cells (tables copy_tree) ∙ map_same (λ c. flagless (four_cells c)) flagless (λ c. refl) (tables copy_tree))
        (IsPermutation-map flagless (map four_cells (tables copy_tree)) rows same)

pub turns_third : (old found between new : Database) (rows : Vec Row Global) → AreSecondCopies rows old found → RemakesCopies found between → TurnsRows (flagged rows.items) between new → TurnsThird old new
turns_third old found between new rows copies remade refilled schema is tables h =
    let at = subst (λ d. HoldsTables schema d tables) (sym (copies.same (subst IsSecondSchema (sym h.is) is))) h in
    (flagged rows.items (tables_before copy_tree tables), is_third tables rows.items (copies.all schema is tables h), refilled (tables_before copy_tree tables) (remade schema is tables at))
