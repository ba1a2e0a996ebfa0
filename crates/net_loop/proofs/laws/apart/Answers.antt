use Rattle.net_loop.proofs.LifeLemmas as life
use Rattle.net_loop.proofs.laws.apart.Goals as goal

pub returns : goal.returns
returns g c = life.apart g.M.Machine.rules
