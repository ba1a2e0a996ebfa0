use Rattle.store_engine.proofs.AloneLemmas.{projection}
use Rattle.store_engine.proofs.laws.each_user_alone.Goals as goal

-- src/laws.rt:10:1
pub returns : goal.returns
returns c = projection
