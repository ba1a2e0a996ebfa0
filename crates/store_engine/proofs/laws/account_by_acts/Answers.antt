use Rattle.store_engine.proofs.ActLaws.{alone_ends}
use Rattle.store_engine.proofs.laws.account_by_acts.Goals as goal

pub returns : goal.returns
returns c = alone_ends
