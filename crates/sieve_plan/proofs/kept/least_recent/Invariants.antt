use Rattle.std.proofs.Common.{◌<◌, length}
use Rattle.sieve_plan.proofs.kept.least_recent.Given as goal

abbrev pub invariant-loop-place : goal.invariant-loop-place
invariant-loop-place l = l.least < length l.scripts
