use Rattle.net_loop.proofs.QueueLemmas as queue
use Rattle.net_loop.proofs.laws.none_forgotten.Goals as goal

pub returns : goal.returns
returns g c = queue.none_forgotten g.M.Machine.rules
