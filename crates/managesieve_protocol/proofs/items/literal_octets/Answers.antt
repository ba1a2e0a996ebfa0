use Rattle.managesieve_protocol.proofs.Outside.{free_literal, literal_free}
use Rattle.managesieve_protocol.proofs.items.literal_octets.Goals as goal

pub returns : goal.returns
returns c = λ pending text. (free_literal pending text, literal_free pending text)
