use Rattle.managesieve_protocol.proofs.Unique as unique
use Rattle.managesieve_protocol.proofs.items.one_reach.Goals as goal

pub returns : goal.returns
returns c = unique.one_reach
