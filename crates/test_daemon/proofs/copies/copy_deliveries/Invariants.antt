-- Those of the first ones.
use Rattle.std.proofs.Common.{◌≡◌, take}
use Rattle.daemon_core.specs.Together.{deliveries_of}
use Rattle.test_daemon.proofs.copies.copy_deliveries.Given as goal

abbrev pub invariant-loop-it : goal.invariant-loop-it
invariant-loop-it l = l.events.items ≡ deliveries_of l.terms (take l.it-index l.requests)
