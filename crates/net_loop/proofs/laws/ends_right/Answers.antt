use Rattle.net_loop.proofs.LifeLemmas as life
use Rattle.net_loop.proofs.laws.ends_right.Goals as goal

pub returns : goal.returns
returns g c = life.ends_right g.M.Machine.rules
