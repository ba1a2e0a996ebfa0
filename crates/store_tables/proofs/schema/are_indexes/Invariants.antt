use Rattle.std.proofs.Common.{◌≡◌, ◌↔◌, map, length}
use Rattle.store_tables.specs.Schema.{index_of}
use Rattle.store_tables.proofs.schema.are_indexes.Given as goal

abbrev pub invariant-loop-forms : goal.invariant-loop-forms
invariant-loop-forms l = (l.initial.indexes ≡ map index_of l.initial.forms) ↔ (l.indexes ≡ map index_of l.forms)

abbrev pub decreases-loop-forms : goal.decreases-loop-forms
decreases-loop-forms l = length l.forms
