use Rattle.managesieve_protocol.proofs.Unique as unique
use Rattle.managesieve_protocol.proofs.items.item_is.Goals as goal

pub returns : goal.returns
returns c = unique.gives
