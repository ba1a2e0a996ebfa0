use Rattle.std.proofs.Common.{◌≡◌, ◌++◌, map}
use Rattle.store_export.specs.declared.place.PartPlace.TheVariants.{Reply}
use Rattle.store_export.proofs.place.push_replies.Given as goal

abbrev pub invariant-loop-key : goal.invariant-loop-key
invariant-loop-key l = l.places ≡ l.initial.places ++ map Reply l.yielded
