use Rattle.store_tables.proofs.WriteLemmas.{statement_makes}
use Rattle.store_tables.proofs.StatementLemmas.{removes_message}
use Rattle.store_tables.proofs.message.remove_message.Goals as goal

pub returns : goal.returns
returns g c =
    statement_makes g.S.Store _ _ _ c.args.tx.now c.execute.new.tx c.execute.result (removes_message _ _ c.args.owner.now c.args.id.now)
    (rw (c.params-to_sql.ensures, c.params-to_sql-2.ensures) at c.execute.ensures)
