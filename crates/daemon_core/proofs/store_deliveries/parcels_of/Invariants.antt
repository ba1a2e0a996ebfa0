-- Those that were made so far.
use Rattle.std.proofs.Common.{take}
use Rattle.daemon_core.specs.Together.{AreParcels}
use Rattle.daemon_core.proofs.store_deliveries.parcels_of.Given as goal

abbrev pub invariant-loop-it : goal.invariant-loop-it
invariant-loop-it l = AreParcels (take l.it-index l.requests) l.parcels.items
