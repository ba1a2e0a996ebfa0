use Rattle.std.proofs.Common.{◌≡◌, ◌++◌, map}
use Rattle.store_export.specs.declared.place.PartPlace.TheVariants.{Script}
use Rattle.store_export.proofs.place.push_scripts.Given as goal

abbrev pub invariant-loop-name : goal.invariant-loop-name
invariant-loop-name l = l.places ≡ l.initial.places ++ map Script l.yielded
