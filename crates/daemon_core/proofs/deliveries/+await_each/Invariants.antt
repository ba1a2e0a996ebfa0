use Rattle.std.proofs.Common.{length}
use Rattle.daemon_core.proofs.deliveries.+await_each.Given as goal

abbrev pub decreases-await_each : goal.decreases-await_each
decreases-await_each l = length l.requests.now
