use Rattle.net_loop.specs.Life.{acts_of}
use Rattle.net_loop.specs.Moves.{loop_state, loop_moment}
use Rattle.daemon_core.proofs.HeadlineLemmas.{headline}
use Rattle.daemon_core.proofs.life.serve_clients.Goals as goal

pub returns-clause-headline : goal.returns-clause-headline
returns-clause-headline g c tells new fresh start shown settled =
    let lives = c.serve.ensures.lives tells in (
      acts_of lives.moves,
      lives.grows,
      headline g.O.StoreAccess.store.view (loop_moment g.O.Outside.told (loop_state c.args.outside.now c.args.daemon.now c.args.service.now)) fresh new start shown settled lives.moves
          (loop_moment g.O.Outside.told (loop_state c.serve.new.outside c.serve.new.machine c.serve.new.service)) lives.passes,
    )
