-- Examples of databases that are ours, and near misses.
use Rattle.std.proofs.Common.{◌≡◌, ◌==◌, pos, cond, codes, List, [], ◌∷◌, length, None, true, false, Ok, refl, sym, ap, ◌∙◌, arith}
use Rattle.sqlite_value.specs.declared.value.Value.TheVariants.{Int, Text, Null}
use Rattle.sqlite_value.specs.declared.keys.Collation.TheVariants.{Binary}
use Rattle.sqlite_value.specs.Order.{Row, column, value_cmp}
use Rattle.sqlite_sql.specs.Ops.{binary}
use Rattle.sqlite_schema.specs.declared.schema.Kind.TheVariants.{Integer}
use Rattle.sqlite_schema.specs.declared.schema.Column.{Column}
use Rattle.sqlite_schema.specs.declared.schema.Table.{Table}
use Rattle.sqlite_schema.specs.declared.schema.Schema.{Schema}
use Rattle.sqlite_schema.specs.Names.{same_name}
use Rattle.sqlite_catalog.specs.Change.{created}
use Rattle.sqlite_resolve.specs.Compile.{table_defined_by}
use Rattle.sqlite_tied.specs.Compute.{everything}
use Rattle.sqlite.specs.Effect.{Database}
use Rattle.sqlite.specs.Listing.{understood}
use Rattle.store_tables.specs.Schema.{no_schema, mail_schema, schema_8, IsOurSchema}
use Rattle.store_tables.specs.MetaTable.{meta_tree, stored_value_column, version_row}
use Rattle.store_tables.specs.Connection.{has_our_name}
use Rattle.store_tables.specs.Ours.{IsOurs}

-- a database of our tables, with these rows in that of the version
abbrev with_versions : List Row → Database
with_versions rows = record { schema = mail_schema; trees = λ tree. cond (tree == meta_tree) rows [] }

abbrev says_3 : Row
says_3 = Int (pos 1) ∷ version_row

ours : IsOurs (with_versions (says_3 ∷ []))
unfolding binary value_cmp lib.Ieee.is_nan lib.Ieee.lt
ours = record { schema = refl; row = says_3; only = refl; says = refl }

-- near miss: the index of the copies by their messages is lacking
not_unindexed : IsOurs (record (with_versions (says_3 ∷ [])) { schema = schema_8 }) → ⊥
unfolding everything
not_unindexed o = let same : length schema_8.indexes ≡ length mail_schema.indexes = ap (λ (s : Schema). length s.indexes) o.schema in omega (arith, same)

-- near miss: no row of the version
not_without_version : IsOurs (with_versions []) → ⊥
not_without_version o = let e = o.only in cc

-- near miss: version 2
abbrev says_2 : Row
says_2 = Int (pos 1) ∷ Text (codes "version") ∷ Int (pos 2) ∷ []

abbrev first_of : List Row → Row
first_of [] = []
first_of (row ∷ rows) = row

two_not_three : Int (pos 2) ≡ Int (pos 3) → ⊥
two_not_three e = cc

not_version_2 : IsOurs (with_versions (says_2 ∷ [])) → ⊥
unfolding binary value_cmp lib.Ieee.is_nan lib.Ieee.lt
not_version_2 o = two_not_three (ap (λ rows. column (first_of rows) stored_value_column) o.only ∙ o.says)

-- near miss: a second row of the version
not_twice : IsOurs (with_versions (says_3 ∷ says_2 ∷ [])) → ⊥
unfolding binary value_cmp lib.Ieee.is_nan lib.Ieee.lt
not_twice o = let same : 2 ≡ 1 = ap (λ rows. length rows) o.only in omega (arith, same)

-- near miss: the only table is another program's, by one of our names
abbrev their_column : Column
their_column = record { name = codes "x"; kind = Integer; is_strict = false; not_null = false; default = Null; collation = Binary }

abbrev their_meta : Table
their_meta = record {
  name = codes "meta";
  tree = 0;
  columns = their_column ∷ [];
  key = None;
  primary = [];
  uniques = [];
  orders = [];
  checks = [];
  references = [];
  computed = [];
  stamps = record { places = []; terms = []; formats = [] };
  is_counted = false;
}

their_meta_defined : table_defined_by (codes "CREATE TABLE meta (x INTEGER)") ≡ Ok their_meta
unfolding understood everything
their_meta_defined = refl

eight_tables : (schema : Schema) → IsOurSchema schema → length schema.tables ≡ 8
eight_tables schema is = ap (λ (s : Schema). length s.tables) is

not_their_meta : (db : Database) → db.schema ≡ created no_schema their_meta → IsOurs db → ⊥
not_their_meta db theirs o =
    let same : length (created no_schema their_meta).tables ≡ 8 = ap (λ (s : Schema). length s.tables) (sym theirs) ∙ eight_tables db.schema o.schema in
    omega (arith, same)

-- `Store::create` leaves it alone by its name; a table `mail` has none of our names
named_like_ours : has_our_name (created no_schema their_meta) ≡ true
unfolding same_name
named_like_ours = refl

named_otherwise : has_our_name (created no_schema (record their_meta { name = codes "mail" })) ≡ false
unfolding same_name
named_otherwise = refl
