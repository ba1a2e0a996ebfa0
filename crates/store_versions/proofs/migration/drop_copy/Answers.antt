use Rattle.store_versions.specs.Migration.{LosesCopies}
use Rattle.store_versions.proofs.MigrationLemmas.{copies_dropped}
use Rattle.store_tables.proofs.WriteLemmas.{statement_makes}
use Rattle.store_versions.proofs.migration.drop_copy.Goals as goal

pub returns : goal.returns
returns g c = statement_makes g.S.Store LosesCopies _ _ c.args.tx.now c.execute.new.tx c.execute.result (copies_dropped _ _) c.execute.ensures
