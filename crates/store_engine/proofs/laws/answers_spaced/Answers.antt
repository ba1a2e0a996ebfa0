use Rattle.store_engine.proofs.SpacingLemmas.{spacing}
use Rattle.store_engine.proofs.laws.answers_spaced.Goals as goal

-- src/laws.rt:15:1
pub returns : goal.returns
returns c = spacing
