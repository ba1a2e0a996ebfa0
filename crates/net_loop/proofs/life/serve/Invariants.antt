use Rattle.net_loop.specs.Life.{AddsIf, LivesIf}
use Rattle.net_loop.specs.Moves.{loop_state}
use Rattle.net_loop.specs.Told.{ToldBefore}
use Rattle.net_loop.proofs.life.serve.Given as goal

abbrev pub invariant-loop-round : goal.invariant-loop-round
invariant-loop-round g l =
    ToldBefore g.O.Outside.told l.initial.outside l.outside
    × LivesIf g.O.Outside.told g.M.Machine.rules (loop_state l.initial.outside l.initial.machine l.initial.service) (loop_state l.outside l.machine l.service)
    × AddsIf g.O.Outside.told l.initial.outside l.round l.outside
