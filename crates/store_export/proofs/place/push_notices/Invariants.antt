use Rattle.std.proofs.Common.{◌≡◌, ◌++◌, map}
use Rattle.store_export.specs.declared.place.PartPlace.TheVariants.{Notice}
use Rattle.store_export.proofs.place.push_notices.Given as goal

abbrev pub invariant-loop-number : goal.invariant-loop-number
invariant-loop-number l = l.places ≡ l.initial.places ++ map Notice l.yielded
