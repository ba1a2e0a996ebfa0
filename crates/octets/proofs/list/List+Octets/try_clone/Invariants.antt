use Rattle.std.proofs.Common.{◌≡◌, take}
use Rattle.octets.proofs.list.List+Octets.try_clone.Given as goal

abbrev pub invariant-loop-text : goal.invariant-loop-text
invariant-loop-text l = l.copies ≡ take l.text-index l.self
