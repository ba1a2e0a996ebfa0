use Rattle.net_loop.specs.Moves.{loop_state, loop_moment}
use Rattle.net_loop.proofs.LifeLemmas.{one_longer, then_one}
use Rattle.net_loop.proofs.life.serve.Goals as goal

pub loop-round-preserved : goal.loop-round-preserved
loop-round-preserved g c = (
  λ tells. c.loop-round.invariant.0 (c.act.ensures.kept tells),
  λ tells. then_one g.M.Machine.rules (loop_moment g.O.Outside.told (loop_state c.args.outside.now c.args.machine.now c.args.service.now)) (loop_moment g.O.Outside.told (loop_state c.loop-round.outside c.loop-round.machine c.loop-round.service)) (loop_moment g.O.Outside.told (loop_state c.act.new.outside c.act.new.machine c.act.new.service)) (c.loop-round.invariant.1 (c.act.ensures.kept tells)) (c.in_ok-act.ensures.moves tells),
  λ tells. one_longer (g.O.Outside.told.seen c.args.outside.now) (g.O.Outside.told.seen c.loop-round.outside) (g.O.Outside.told.seen c.act.new.outside) c.loop-round.round _ (c.loop-round.invariant.2 (c.act.ensures.kept tells)) (c.in_ok-act.ensures.moves tells).grows,
)
