-- What the rules of a schema say of the values in a column.
use Rattle.std.proofs.Common.{◌≡◌, ℕ, zero, suc, ◌+◌, true, List, [], ◌∷◌, slice_get, Some, None, refl, sym, ap, ◌∙◌, subst, true≢false}
use Rattle.std.proofs.lemmas.Bool.{and_parts}
use Rattle.sqlite_value.specs.declared.value.Value.{Value}
use Rattle.sqlite_value.specs.declared.value.Value.TheVariants.{Null, Int, Real, Text, Blob}
use Rattle.sqlite_value.specs.Order.{Row, column}
use Rattle.sqlite_trees.specs.Tree.{Trees}
use Rattle.sqlite_schema.specs.declared.schema.Constraint.TheVariants.{Datatype}
use Rattle.sqlite_schema.specs.declared.schema.Kind.{Kind}
use Rattle.sqlite_schema.specs.declared.schema.Kind.TheVariants.{Integer}
use Rattle.sqlite_schema.specs.declared.schema.Column.{Column}
use Rattle.sqlite_schema.specs.declared.schema.Reference.{Reference}
use Rattle.sqlite_schema.specs.declared.schema.Schema.{Schema}
use Rattle.sqlite_schema.specs.Rules.{Fits, are_typed, suits, is_of}
use Rattle.sqlite_rules.specs.Lists.{Has}
use Rattle.sqlite_rules.specs.Cast.{cast}
use Rattle.sqlite_rules.proofs.RuleLemmas.{keeps_at}
use Rattle.store_tables.specs.Forms.{keyed}
use Rattle.store_tables.specs.Rows.{cells_of, stored, IsHeld}
use Rattle.store_tables.proofs.CellLemmas.{cast_null, cast_int}
use Rattle.store_tables.proofs.AnswerLemmas.{has_map, has_unmap}

null_fits : (kind : Kind) → is_of kind Null ≡ true
null_fits kind = refl

typed_at : (columns : List Column) (cells : Row) (at place : ℕ) (c : Column) → are_typed None at columns cells ≡ true → slice_get columns place ≡ Some c → c.is_strict ≡ true → is_of c.kind (column cells place) ≡ true
typed_at [] cells at place c typed there strict = cc
typed_at (d ∷ columns) [] at place c typed there strict = null_fits c.kind
typed_at (d ∷ columns) (v ∷ cells) at zero c typed there strict =
    let same : d ≡ c = cc in
    let suited = (and_parts (suits d v) (are_typed None (at + 1) columns cells) typed).0 in
    let strictly : d.is_strict ≡ true = ap (λ (x : Column). x.is_strict) same ∙ strict in
    subst (λ (x : Column). is_of x.kind v ≡ true) same (rw strictly at suited)
typed_at (d ∷ columns) (v ∷ cells) at (suc place) c typed there strict = typed_at columns cells (at + 1) place c (and_parts _ _ typed).1 there strict

-- a value that an INTEGER column may have is stored as it is
pub cast_integer : (v : Value) → is_of Integer v ≡ true → cast Integer v ≡ v
cast_integer Null h = cast_null
cast_integer (Int n) h = cast_int n
cast_integer (Real x) h = absurd (true≢false (sym h))
cast_integer (Text t) h = absurd (true≢false (sym h))
cast_integer (Blob b) h = absurd (true≢false (sym h))

module _ (schema : Schema) (name : List ℕ) (tree : ℕ) (primary : List ℕ) (references : List Reference) (columns : List Column) (listed : Has schema.tables (keyed name tree primary references columns))
    (db : Trees) (fits : Fits schema db) (all : List Row) (h : IsHeld (db tree) all) where
  pub column_is_of : (cells : Row) → Has all cells → (place : ℕ) (c : Column) → slice_get columns place ≡ Some c → c.is_strict ≡ true → is_of c.kind (column cells place) ≡ true
  column_is_of cells there place c at strict =
      let e = has_unmap cells_of h.entries cells (subst (λ l. Has l cells) h.cells_are there) in
      let row = subst (λ l. Has l (stored e.0)) (sym h.rows_are) (has_map stored h.entries e.0 e.1) in
      let passes = keeps_at Datatype schema db (keyed name tree primary references columns) (stored e.0) (fits.rules Datatype (λ x. cc)) listed row in
      subst (λ (x : Row). is_of c.kind (column x place) ≡ true) (sym e.2) (typed_at columns (cells_of e.0) 0 place c (and_parts _ _ passes).0 at strict)
