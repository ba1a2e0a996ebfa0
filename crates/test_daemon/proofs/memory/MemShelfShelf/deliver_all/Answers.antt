use Rattle.std.proofs.Common.{subst}
use Rattle.sqlite.specs.Held.{state}
use Rattle.sqlite.specs.Steps.{over_memory}
use Rattle.daemon_core.specs.Together.{StoreDelivers}
use Rattle.test_daemon.proofs.MemoryLemmas.{together_on_shelf}
use Rattle.test_daemon.proofs.memory.MemShelfShelf.deliver_all.Goals as goal

pub returns-clause-delivers : goal.returns-clause-delivers
returns-clause-delivers c =
    let old = state over_memory c.args.self.now.store in
    let new = state over_memory c.deliver_requests.new.store in
    together_on_shelf c.args.terms.now c.args.requests.now c.deliver_requests.result c.args.self.now _
    (subst (λ t. StoreDelivers t c.args.requests.now c.deliver_requests.result old new) c.lend.ensures.lent c.deliver_requests.ensures.delivers)
