use Rattle.store_tables.proofs.WriteLemmas.{statement_makes}
use Rattle.store_tables.proofs.StatementLemmas.{removes_scripts}
use Rattle.store_tables.proofs.script.remove_scripts.Goals as goal

pub returns : goal.returns
returns g c =
    statement_makes g.S.Store _ _ _ c.args.tx.now c.execute.new.tx c.execute.result (removes_scripts _ _ c.args.owner.now)
    (rw c.params-to_sql.ensures at c.execute.ensures)
