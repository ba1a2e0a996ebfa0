use Rattle.net_loop.proofs.LifeLemmas as life
use Rattle.net_loop.proofs.laws.one_connection.Goals as goal

pub returns : goal.returns
returns g c = life.one_connection g.M.Machine.rules
