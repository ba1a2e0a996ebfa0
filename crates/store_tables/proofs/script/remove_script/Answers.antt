use Rattle.store_tables.proofs.WriteLemmas.{statement_makes}
use Rattle.store_tables.proofs.StatementLemmas.{removes_script}
use Rattle.store_tables.proofs.script.remove_script.Goals as goal

pub returns : goal.returns
returns g c =
    statement_makes g.S.Store _ _ _ c.args.tx.now c.execute.new.tx c.execute.result (removes_script _ _ c.args.owner.now c.args.name.now)
    (rw (c.params-to_sql.ensures, c.params-to_sql-2.ensures) at c.execute.ensures)
