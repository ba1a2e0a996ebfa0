use Rattle.store_versions.specs.Migration.{AreOldRows}
use Rattle.store_versions.specs.OldSchema.{select_old_replies, oldest_reply_tree, four_cells}
use Rattle.store_versions.proofs.MigrationLemmas.{finds_listed}
use Rattle.store_versions.proofs.MovingLemmas.{replies_found}
use Rattle.store_versions.proofs.moving.find_replies.Goals as goal

pub returns : goal.returns
returns g c = finds_listed g.S.Store select_old_replies (AreOldRows oldest_reply_tree four_cells) c.args.tx.now c.list.new.tx c.list.result (replies_found _ _) c.list.ensures
