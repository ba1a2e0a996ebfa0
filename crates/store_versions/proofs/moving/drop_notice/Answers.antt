use Rattle.store_versions.specs.OldSchema.{oldest_schema, oldest_6}
use Rattle.store_versions.proofs.MovingLemmas.{notice_dropped}
use Rattle.store_tables.proofs.WriteLemmas.{statement_makes}
use Rattle.store_versions.proofs.moving.drop_notice.Goals as goal
use Rattle.store_versions.specs.Inside.{LosesTable}

pub returns : goal.returns
returns g c = statement_makes g.S.Store (LosesTable oldest_schema oldest_6) _ _ c.args.tx.now c.execute.new.tx c.execute.result (notice_dropped _ _) c.execute.ensures
