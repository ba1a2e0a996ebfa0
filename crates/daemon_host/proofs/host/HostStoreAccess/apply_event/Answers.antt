-- Nobody came between, and nothing is told.
use Rattle.std.proofs.Common.{[], refl}
use Rattle.store_lock.specs.Laws.{never_told}
use Rattle.daemon_host.proofs.host.HostStoreAccess.apply_event.Goals as goal

pub returns-in-Some-clause-carries : goal.returns-in-Some-clause-carries
returns-in-Some-clause-carries g c = rw c.end_step.ensures.same ([], c.in-Some.ensures, λ told. never_told told, λ had. refl)
