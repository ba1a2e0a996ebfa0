-- Those of the first ones.
use Rattle.std.proofs.Common.{◌≡◌, take}
use Rattle.daemon_core.specs.Together.{ids_of}
use Rattle.test_daemon.proofs.copies.copy_ids.Given as goal

abbrev pub invariant-loop-it : goal.invariant-loop-it
invariant-loop-it l = l.ids.items ≡ ids_of (take l.it-index l.requests)
