use Rattle.store_tables.proofs.WriteLemmas.{statement_makes}
use Rattle.store_tables.proofs.StatementLemmas.{sets_rounds}
use Rattle.store_tables.proofs.account.set_rounds.Goals as goal

pub returns : goal.returns
returns g c =
    statement_makes g.S.Store _ _ _ c.args.tx.now c.execute.new.tx c.execute.result (sets_rounds _ _ c.args.name.now c.args.rounds)
    (rw (c.params-to_sql.ensures, c.params-to_sql-2.ensures) at c.execute.ensures)
