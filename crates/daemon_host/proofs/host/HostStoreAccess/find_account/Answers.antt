-- Nobody came between, and nothing is told.
use Rattle.std.proofs.Common.{[], refl}
use Rattle.store_lock.specs.Laws.{never_told}
use Rattle.daemon_host.proofs.HeldLemmas.{asked_alone}
use Rattle.daemon_host.proofs.host.HostStoreAccess.find_account.Goals as goal

pub returns-in-Some-clause-asks : goal.returns-in-Some-clause-asks
returns-in-Some-clause-asks g c = rw c.end_lookup.ensures.same (
  [],
  λ clean. asked_alone g.H.MailStore.view c.args.self.now.held c.try_find_account.new.self.held c.args.user.now c.in-Some.lookup c.args._clients.now.sessions (c.in-Some.ensures.seeks clean),
  λ told. never_told told,
  λ had. refl,
)
