-- Nobody came between, and nothing is told.
use Rattle.std.proofs.Common.{[], refl}
use Rattle.store_lock.specs.Laws.{never_told}
use Rattle.daemon_host.proofs.HeldLemmas.{moved_alone}
use Rattle.daemon_host.proofs.host.HostStoreAccess.move_next.Goals as goal

pub returns-in-Some-clause-moves : goal.returns-in-Some-clause-moves
returns-in-Some-clause-moves g c = (
  [],
  c.in-Some.moving,
  c.pause_behind.ensures,
  λ clean. moved_alone g.H.MailStore.view c.args.self.now.held c.try_move_next.new.self.held c.in-Some.moving c.args._clients.now.sessions (c.in-Some.ensures.moves clean),
  c.in-Some.ensures.keeps,
  λ told. never_told told,
  λ had. refl,
)
