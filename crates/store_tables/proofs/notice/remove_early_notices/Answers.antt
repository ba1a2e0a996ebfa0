use Rattle.store_tables.proofs.WriteLemmas.{statement_makes}
use Rattle.store_tables.proofs.StatementLemmas.{removes_early_notices}
use Rattle.store_tables.proofs.notice.remove_early_notices.Goals as goal

pub returns : goal.returns
returns g c =
    statement_makes g.S.Store _ _ _ c.args.tx.now c.execute.new.tx c.execute.result (removes_early_notices _ _ c.args.owner.now c.args.until.now)
    (rw (c.params-to_sql.ensures, c.params-to_sql-2.ensures) at c.execute.ensures)
