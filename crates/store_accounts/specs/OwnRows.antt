-- The rows of one user.
use Rattle.std.specs.Prelude.{List, [], ◌∷◌, ℕ, filter}
use Rattle.sqlite_value.specs.declared.value.Value.TheVariants.{Blob}
use Rattle.store_tables.specs.Rows.{Tables, has_key}

-- the rows of one user, in each table that has an owner and in the table of accounts
abbrev pub rows_of : List ℕ → Tables → Tables
rows_of user tables tree = filter (has_key (Blob user ∷ [])) (tables tree)
