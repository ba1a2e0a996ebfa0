use Rattle.store_tables.proofs.WriteLemmas.{statement_makes}
use Rattle.store_tables.proofs.StatementLemmas.{inserts_outgoing}
use Rattle.store_tables.proofs.queue.add_outgoing.Goals as goal

pub returns : goal.returns
returns g c =
    statement_makes g.S.Store _ _ _ c.args.tx.now c.execute.new.tx c.execute.result (inserts_outgoing _ _ c.args.owner.now c.args.id.now c.args.kind c.args.sender.now c.args.target.now c.args.message.now)
    (rw (c.params-to_sql.ensures, c.params-to_sql-2.ensures, c.params-to_sql-3.ensures, c.params-to_sql-4.ensures, c.params-to_sql-5.ensures, c.params-to_sql-6.ensures, c.number_of-kind.ensures) at c.execute.ensures)
