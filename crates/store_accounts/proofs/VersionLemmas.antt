-- The row of the version, in the rows of its table and in its tree.
use Rattle.std.proofs.Common.{◌≡◌, true, false, codes, List, [], ◌∷◌, map, filter, refl, sym, ap, ◌∙◌}
use Rattle.sqlite_value.specs.declared.value.Value.TheVariants.{Text}
use Rattle.sqlite_value.specs.declared.keys.Collation.TheVariants.{Binary}
use Rattle.sqlite_value.specs.Order.{Row, column}
use Rattle.sqlite_sql.specs.declared.ops.CompareOp.TheVariants.{Eq}
use Rattle.sqlite_typed.proofs.TestLemmas.{at_texts, bytes_eq_refl}
use Rattle.sqlite_trees.specs.Tree.{Trees}
use Rattle.sqlite_schema.specs.Rules.{equal}
use Rattle.sqlite_keyed.proofs.ListLemmas.{filter-map, filter_same}
use Rattle.store_tables.specs.Rows.{Entry, cells_of, stored, IsHeld, has_key, has_key_from}
use Rattle.store_tables.specs.MetaTable.{meta_tree, version_key, version_rows, stored_value_column}

pub version_itself : equal Binary (Text (codes "version")) (Text (codes "version")) ≡ true
version_itself = at_texts false Eq (codes "version") (codes "version") ∙ bytes_eq_refl (codes "version")

-- the one row of the version, as the tree has it
pub one_version : (trees : Trees) (cells : List Row) (row : Row) → IsHeld (trees meta_tree) cells → filter (has_key version_key) cells ≡ row ∷ []
    → (r : Row) × (version_rows trees ≡ r ∷ []) × (column r stored_value_column ≡ column row 1)
one_version trees cells row held only =
    let kept = sym (filter-map (has_key version_key) cells_of held.entries) ∙ sym (ap (filter (has_key version_key)) held.cells_are) ∙ only in
    let found = ap (filter (has_key_from 1 version_key)) held.rows_are ∙ filter-map (has_key_from 1 version_key) stored held.entries
    ∙ ap (map stored) (filter_same _ (λ (e : Entry). has_key version_key (cells_of e)) (λ e. refl) held.entries) in
    go (filter (λ (e : Entry). has_key version_key (cells_of e)) held.entries) kept found
  where
    go : (es : List Entry) → map cells_of es ≡ row ∷ [] → version_rows trees ≡ map stored es → (r : Row) × (version_rows trees ≡ r ∷ []) × (column r stored_value_column ≡ column row 1)
    go [] kept found = absurd (let none = kept in cc)
    go (e ∷ []) kept found =
        let is : cells_of e ≡ row = cc in
        (stored e, found, ap (λ (c : Row). column c 1) is)
    go (e ∷ f ∷ es) kept found = absurd (let two = kept in cc)
