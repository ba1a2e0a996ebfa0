-- Both are those of the same copies.
use Rattle.store_engine.proofs.FlagLemmas.{flags_beside}
use Rattle.store_engine.proofs.laws.flags_beside_messages.Goals as goal

pub returns : goal.returns
returns c = λ tables accounts user a shown there folder. flags_beside tables accounts user a shown there folder
