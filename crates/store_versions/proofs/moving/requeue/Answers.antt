use Rattle.store_tables.proofs.WriteLemmas.{statement_makes}
use Rattle.store_versions.proofs.MovingLemmas.{requeues}
use Rattle.store_versions.proofs.moving.requeue.Goals as goal

pub returns : goal.returns
returns g c =
    statement_makes g.S.Store _ _ _ c.args.tx.now c.execute.new.tx c.execute.result (requeues _ _ c.args.queued.now)
    (rw (c.params-to_sql.ensures, c.params-to_sql-2.ensures, c.params-to_sql-3.ensures, c.params-to_sql-4.ensures, c.params-to_sql-5.ensures, c.params-to_sql-6.ensures) at c.execute.ensures)
