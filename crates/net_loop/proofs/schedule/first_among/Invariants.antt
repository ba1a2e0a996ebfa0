use Rattle.std.proofs.Common.{◌≡◌, length, find}
use Rattle.net_loop.specs.Talk.{client_of, task}
use Rattle.net_loop.specs.Turns.{is_runnable}
use Rattle.net_loop.proofs.schedule.first_among.Given as goal

abbrev pub invariant-loop-id : goal.invariant-loop-id
invariant-loop-id g l =
    find (λ id. is_runnable (task g.M.Machine.rules l.machine l.service.moment 0 id (client_of l.service id))) l.rest
    ≡ find (λ id. is_runnable (task g.M.Machine.rules l.machine l.service.moment 0 id (client_of l.service id))) l.ids

abbrev pub decreases-loop-id : goal.decreases-loop-id
decreases-loop-id g l = length l.rest
