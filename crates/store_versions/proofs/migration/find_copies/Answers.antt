use Rattle.store_versions.specs.Migration.{AreOldCopies}
use Rattle.store_versions.specs.OldSchema.{select_old_copies}
use Rattle.store_versions.proofs.MigrationLemmas.{finds_listed, copies_found}
use Rattle.store_versions.proofs.migration.find_copies.Goals as goal

pub returns : goal.returns
returns g c = finds_listed g.S.Store select_old_copies AreOldCopies c.args.tx.now c.list.new.tx c.list.result (copies_found _ _) c.list.ensures
