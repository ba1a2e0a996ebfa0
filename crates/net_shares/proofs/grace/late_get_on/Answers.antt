use Rattle.net_shares.proofs.GraceLemmas as graces
use Rattle.net_shares.proofs.grace.late_get_on.Goals as goal

pub returns : goal.returns
returns g = graces.late_get_on
