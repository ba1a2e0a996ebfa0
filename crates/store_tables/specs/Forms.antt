-- The tables and the statements that the lemmas speak of: STRICT tables with one key, and queries over one table or two.
use Rattle.std.specs.Prelude.{ℕ, pos, negsuc, true, false, List, [], ◌∷◌, None}
use Rattle.sqlite_value.specs.declared.value.Value.TheVariants.{Null, Int}
use Rattle.sqlite_value.specs.declared.keys.Collation.TheVariants.{Binary}
use Rattle.sqlite_value.specs.declared.keys.Key.{Key}
use Rattle.sqlite_value.specs.Keys.{plain}
use Rattle.sqlite_sql.specs.declared.ops.BinaryOp.TheVariants.{Compare}
use Rattle.sqlite_sql.specs.declared.ops.CompareOp.TheVariants.{Eq}
use Rattle.sqlite_sql.specs.Term.{Term, lit, col, op2}
use Rattle.sqlite_sql.specs.Query.{Join, inner, end}
use Rattle.sqlite_schema.specs.declared.program.Program.{Program}
use Rattle.sqlite_schema.specs.declared.schema.Kind.{Kind}
use Rattle.sqlite_schema.specs.declared.schema.Column.{Column}
use Rattle.sqlite_schema.specs.declared.schema.Reference.{Reference}
use Rattle.sqlite_schema.specs.declared.schema.Table.{Table}

-- a column that is never NULL
abbrev pub needed : List ℕ → Kind → Column
needed name kind = record { name = name; kind = kind; is_strict = true; not_null = true; default = Null; collation = Binary }

-- a column that may be NULL
abbrev pub maybe : List ℕ → Kind → Column
maybe name kind = record { name = name; kind = kind; is_strict = true; not_null = false; default = Null; collation = Binary }

-- a table with one key, which the third argument says by its places
abbrev pub keyed : List ℕ → ℕ → List ℕ → List Reference → List Column → Table
keyed name tree primary references columns = record {
  name = name;
  tree = tree;
  columns = columns;
  key = None;
  primary = primary;
  uniques = primary ∷ [];
  orders = plain ∷ [];
  checks = [];
  references = references;
  computed = [];
  stamps = record { places = []; terms = []; formats = [] };
  is_counted = false;
}

-- the column at the place is equal to the parameter
abbrev pub equals : ℕ → ℕ → Term
equals place param = op2 (Compare Eq Binary) (col 1 place) (col 0 param)

-- a query over these tables, with a LIMIT and an OFFSET: the terms of WHERE and of JOIN, what it shows, and the keys of ORDER BY
abbrev pub limited_from : Term → Term → Join → List Term → List Term → List (Term × Key) → Program
limited_from limit offset from filter project order = record {
  lets = [];
  body = record {
    from = from;
    filter = filter;
    group = None;
    project = project;
    distinct = false;
    collations = [];
    order = order;
    limit = limit;
    offset = offset;
  };
}

-- all rows of it
abbrev pub over_from : Join → List Term → List Term → List (Term × Key) → Program
over_from = limited_from (lit (Int (negsuc 0))) (lit (Int (pos 0)))

-- over one table
abbrev pub over_table : ℕ → List Term → List Term → List (Term × Key) → Program
over_table tree = over_from (inner tree end)

-- over two, of which the first is the outer one
abbrev pub over_two : ℕ → ℕ → List Term → List Term → List (Term × Key) → Program
over_two tree other = over_from (inner tree (inner other end))

-- one row of one over one table, after that many
abbrev pub nth_over : Term → ℕ → List Term → List Term → List (Term × Key) → Program
nth_over offset tree = limited_from (lit (Int (pos 1))) offset (inner tree end)

-- the first row
abbrev pub first_over : ℕ → List Term → List Term → List (Term × Key) → Program
first_over = nth_over (lit (Int (pos 0)))

-- the first rows, so many at most
abbrev pub most_over : ℕ → ℕ → List Term → List Term → List (Term × Key) → Program
most_over n tree = limited_from (lit (Int (pos n))) (lit (Int (pos 0))) (inner tree end)
