use Rattle.net_loop.proofs.BoundLemmas as life
use Rattle.net_loop.proofs.laws.bounded.Goals as goal

pub returns : goal.returns
returns g c = life.bounded g.M.Machine.rules g.met.M.Machine.keeps_limits
