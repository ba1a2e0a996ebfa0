use Rattle.store_tables.specs.QueueTable.{select_later_id}
use Rattle.store_accounts.specs.Next.{ShowLaterId}
use Rattle.store_tables.proofs.TextFacts.{select_later_id_plain}
use Rattle.store_accounts.proofs.AllLemmas.{finds_all}
use Rattle.store_accounts.proofs.NextLemmas.{id_params, later_id_read}
use Rattle.store_accounts.proofs.next.find_later_id.Goals as goal

pub returns : goal.returns
returns g c =
    finds_all g.S.Store select_later_id (id_params c.args.owner.now c.args.id.now) select_later_id_plain.0 c.args.conn.now c.query.new.conn c.query.result (rw (c.params-to_sql.ensures, c.params-to_sql-2.ensures) at c.query.ensures) (ShowLaterId c.args.owner.now c.args.id.now) (λ rows tables h. later_id_read _ _ rows tables h c.args.owner.now c.args.id.now)
