use Rattle.store_tables.specs.Cells.{or_null, borrowed_octets}
use Rattle.store_tables.proofs.WriteLemmas.{statement_makes}
use Rattle.store_tables.proofs.StatementLemmas.{sets_active, active_bound}
use Rattle.store_tables.proofs.account.set_active.Goals as goal

pub returns : goal.returns
returns g c =
    statement_makes g.S.Store _ _ _ c.args.tx.now c.execute.new.tx c.execute.result (sets_active _ _ c.args.name.now (or_null (borrowed_octets c.args.active)))
    (rw (c.params-to_sql.ensures, c.params-to_sql-2.ensures, active_bound c.args.active) at c.execute.ensures)
