use Rattle.store_tables.proofs.WriteLemmas.{statement_makes}
use Rattle.store_tables.proofs.StatementLemmas.{removes_messages}
use Rattle.store_tables.proofs.message.remove_messages.Goals as goal

pub returns : goal.returns
returns g c =
    statement_makes g.S.Store _ _ _ c.args.tx.now c.execute.new.tx c.execute.result (removes_messages _ _ c.args.owner.now)
    (rw c.params-to_sql.ensures at c.execute.ensures)
