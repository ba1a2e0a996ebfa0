-- Nobody came between, and nothing is told.
use Rattle.std.proofs.Common.{[], refl}
use Rattle.store_lock.specs.Laws.{never_told}
use Rattle.daemon_host.proofs.host.HostStoreAccess.deliver.Goals as goal

pub returns-in-Some-clause-delivers : goal.returns-in-Some-clause-delivers
returns-in-Some-clause-delivers g c =
    let brings = rw (c.enter_user.ensures.same, c.enter_user.ensures.settings, c.enter_user.ensures.system) at c.in-Some.ensures in
    rw c.end_delivery.ensures.same (brings.0, brings.1, ([], brings.2 c.args._clients.now.sessions, λ told. never_told told, λ had. refl))

pub returns-in-None-clause-delivers : goal.returns-in-None-clause-delivers
returns-in-None-clause-delivers g c =
    let brings = rw (c.enter_user.ensures.same, c.enter_user.ensures.settings, c.enter_user.ensures.system) at c.in-None.ensures in
    rw c.await_turn.ensures.same (brings.0, brings.1, (λ clean. brings.2 c.args._clients.now.sessions, λ told. never_told told))
