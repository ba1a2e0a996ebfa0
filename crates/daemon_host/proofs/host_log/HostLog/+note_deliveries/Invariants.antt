use Rattle.std.proofs.Common.{length}
use Rattle.daemon_host.proofs.host_log.HostLog.+note_deliveries.Given as goal

abbrev pub decreases-note_deliveries : goal.decreases-note_deliveries
decreases-note_deliveries g l = length l.requests.now
