use Rattle.store_versions.specs.OldSchema.{oldest_5, oldest_4}
use Rattle.store_versions.proofs.MovingLemmas.{outgoing_dropped}
use Rattle.store_tables.proofs.WriteLemmas.{statement_makes}
use Rattle.store_versions.proofs.moving.drop_outgoing.Goals as goal
use Rattle.store_versions.specs.Inside.{LosesTable}

pub returns : goal.returns
returns g c = statement_makes g.S.Store (LosesTable oldest_5 oldest_4) _ _ c.args.tx.now c.execute.new.tx c.execute.result (outgoing_dropped _ _) c.execute.ensures
