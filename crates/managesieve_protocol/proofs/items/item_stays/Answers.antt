use Rattle.managesieve_protocol.proofs.Unique as unique
use Rattle.managesieve_protocol.proofs.items.item_stays.Goals as goal

pub returns : goal.returns
returns c = unique.item_stays_on
