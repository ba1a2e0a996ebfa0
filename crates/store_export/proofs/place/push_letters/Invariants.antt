use Rattle.std.proofs.Common.{◌≡◌, ◌++◌, map}
use Rattle.store_export.specs.declared.place.PartPlace.TheVariants.{Letter}
use Rattle.store_export.proofs.place.push_letters.Given as goal

abbrev pub invariant-loop-head : goal.invariant-loop-head
invariant-loop-head l = l.places ≡ l.initial.places ++ map (λ head. Letter head.id) l.yielded
