use Rattle.std.proofs.Common.{◌≡◌, ◌++◌, None}
use Rattle.store_export.specs.Places.{copy_places}
use Rattle.store_export.proofs.RunLemmas.{run_after}
use Rattle.store_export.proofs.place.push_copies.Given as goal

abbrev pub invariant-loop-copy : goal.invariant-loop-copy
invariant-loop-copy l = (l.places ≡ l.initial.places ++ copy_places None l.yielded) × (l.run ≡ run_after None l.yielded)
