-- The addresses so far are copied.
use Rattle.std.proofs.Common.{◌≡◌, take}
use Rattle.sieve_plan.proofs.targets.copied_addresses.Given as goal

abbrev pub invariant-loop-target : goal.invariant-loop-target
invariant-loop-target l = l.copies ≡ take l.target-index l.targets
