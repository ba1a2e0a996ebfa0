-- Those of the first ones, and of the others that are left.
use Rattle.std.proofs.Common.{◌≡◌, ◌++◌, length}
use Rattle.daemon_core.specs.Together.{deliveries_told}
use Rattle.test_daemon.proofs.copies.copy_told.Given as goal

abbrev pub invariant-loop-it : goal.invariant-loop-it
invariant-loop-it l = l.told.items ++ deliveries_told l.terms l.rest l.left ≡ deliveries_told l.terms l.requests l.answers

abbrev pub decreases-loop-it : goal.decreases-loop-it
decreases-loop-it l = length l.rest
