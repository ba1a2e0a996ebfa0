-- The cells of a row that are read.
use Rattle.std.specs.Prelude.{ℕ, List, [], ◌∷◌}
use Rattle.sqlite_value.specs.declared.value.Value.TheVariants.{Blob}
use Rattle.sqlite_value.specs.Order.{Row, column}

-- what a query for texts shows of one
abbrev pub text_cells : List ℕ → Row
text_cells text = Blob text ∷ []

-- the first cells of a row
abbrev pub first_one : Row → Row
first_one row = column row 0 ∷ []

abbrev pub first_two : Row → Row
first_two row = column row 0 ∷ column row 1 ∷ []

abbrev pub first_three : Row → Row
first_three row = column row 0 ∷ column row 1 ∷ column row 2 ∷ []

abbrev pub first_four : Row → Row
first_four row = column row 0 ∷ column row 1 ∷ column row 2 ∷ column row 3 ∷ []

abbrev pub first_five : Row → Row
first_five row = column row 0 ∷ column row 1 ∷ column row 2 ∷ column row 3 ∷ column row 4 ∷ []
