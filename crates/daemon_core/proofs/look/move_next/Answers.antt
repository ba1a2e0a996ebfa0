use Rattle.daemon_core.proofs.MoveLemmas.{works_move}
use Rattle.daemon_core.proofs.look.move_next.Goals as goal

pub returns-clause-works : goal.returns-clause-works
returns-clause-works g c =
    works_move g.O.Outside.told g.O.StoreAccess.store g.met.O.StoreAccess.sure c.args.outside.now c.move_next-pause.new.self c.args.daemon.now c.args.now c.move_next-pause.new.clients
    c.move_next-pause.result c.moved-daemon.result c.requires c.move_next-pause.ensures.moves c.moved-daemon.ensures
