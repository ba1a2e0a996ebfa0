use Rattle.store_versions.specs.OldSchema.{oldest_6, oldest_5}
use Rattle.store_versions.proofs.MovingLemmas.{reply_dropped}
use Rattle.store_tables.proofs.WriteLemmas.{statement_makes}
use Rattle.store_versions.proofs.moving.drop_reply.Goals as goal
use Rattle.store_versions.specs.Inside.{LosesTable}

pub returns : goal.returns
returns g c = statement_makes g.S.Store (LosesTable oldest_6 oldest_5) _ _ c.args.tx.now c.execute.new.tx c.execute.result (reply_dropped _ _) c.execute.ensures
