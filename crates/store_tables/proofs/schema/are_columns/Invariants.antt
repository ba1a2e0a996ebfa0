use Rattle.std.proofs.Common.{◌≡◌, ◌↔◌, map, length}
use Rattle.store_tables.specs.Schema.{column_of}
use Rattle.store_tables.proofs.schema.are_columns.Given as goal

abbrev pub invariant-loop-forms : goal.invariant-loop-forms
invariant-loop-forms l = (l.initial.columns ≡ map column_of l.initial.forms) ↔ (l.columns ≡ map column_of l.forms)

abbrev pub decreases-loop-forms : goal.decreases-loop-forms
decreases-loop-forms l = length l.forms
