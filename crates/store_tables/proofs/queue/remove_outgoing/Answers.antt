use Rattle.store_tables.proofs.WriteLemmas.{statement_makes}
use Rattle.store_tables.proofs.StatementLemmas.{removes_outgoing}
use Rattle.store_tables.proofs.queue.remove_outgoing.Goals as goal

pub returns : goal.returns
returns g c =
    statement_makes g.S.Store _ _ _ c.args.tx.now c.execute.new.tx c.execute.result (removes_outgoing _ _ c.args.owner.now c.args.id.now)
    (rw (c.params-to_sql.ensures, c.params-to_sql-2.ensures) at c.execute.ensures)
