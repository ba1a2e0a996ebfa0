use Rattle.store_engine.proofs.MoveLemmas.{spaced_on}
use Rattle.store_engine.proofs.laws.spaced_across_a_move.Goals as goal

pub returns : goal.returns
returns c = spaced_on
