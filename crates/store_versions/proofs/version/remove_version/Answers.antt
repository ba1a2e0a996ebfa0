use Rattle.store_tables.proofs.WriteLemmas.{statement_makes}
use Rattle.store_versions.proofs.OldVersionLemmas.{removes_version}
use Rattle.store_versions.proofs.version.remove_version.Goals as goal

pub returns : goal.returns
returns g c =
    statement_makes g.S.Store _ _ _ c.args.tx.now c.execute.new.tx c.execute.result (removes_version _ _)
    (rw (c.params-to_sql.ensures) at c.execute.ensures)
