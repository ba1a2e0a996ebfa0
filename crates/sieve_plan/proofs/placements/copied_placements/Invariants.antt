-- The placements so far are copied.
use Rattle.std.proofs.Common.{◌≡◌, take}
use Rattle.sieve_plan.proofs.placements.copied_placements.Given as goal

abbrev pub invariant-loop-placement : goal.invariant-loop-placement
invariant-loop-placement l = l.copies.items ≡ take l.placement-index l.filed
