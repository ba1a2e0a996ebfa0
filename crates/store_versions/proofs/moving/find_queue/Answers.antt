use Rattle.store_versions.specs.Migration.{AreOldRows}
use Rattle.store_versions.specs.OldSchema.{select_old_queue, oldest_outgoing_tree, queue_columns}
use Rattle.store_versions.proofs.MigrationLemmas.{finds_listed}
use Rattle.store_versions.proofs.MovingLemmas.{queue_found}
use Rattle.store_versions.proofs.moving.find_queue.Goals as goal

pub returns : goal.returns
returns g c = finds_listed g.S.Store select_old_queue (AreOldRows oldest_outgoing_tree queue_columns) c.args.tx.now c.list.new.tx c.list.result (queue_found _ _) c.list.ensures
