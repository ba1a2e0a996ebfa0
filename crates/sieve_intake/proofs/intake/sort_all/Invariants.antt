use Rattle.std.proofs.Common.{◌≡◌}
use Rattle.std.specs.List.{fold}
use Rattle.sieve_intake.specs.Sorting.{sorted_with}
use Rattle.sieve_intake.proofs.intake.sort_all.Given as goal

abbrev pub invariant-loop-entry : goal.invariant-loop-entry
invariant-loop-entry l = l.files ≡ fold sorted_with l.fn.files l.yielded
