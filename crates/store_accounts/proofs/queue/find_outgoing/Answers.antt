use Rattle.store_tables.specs.QueueTable.{queue_key, select_outgoing}
use Rattle.store_accounts.specs.QueueRows.{HasOutgoingRow}
use Rattle.store_tables.proofs.TextFacts.{select_outgoing_plain}
use Rattle.store_accounts.proofs.KeepLemmas.{finds}
use Rattle.store_accounts.proofs.KeyedLemmas.{outgoing_read}
use Rattle.store_accounts.proofs.queue.find_outgoing.Goals as goal

pub returns : goal.returns
returns g c =
    let owner = c.args.owner.now in
    finds g.S.Store select_outgoing (queue_key owner c.args.id.now) select_outgoing_plain.0 c.args.conn.now c.query.new.conn c.query.result (rw (c.params-to_sql.ensures, c.params-to_sql-2.ensures) at c.query.ensures)
    owner (HasOutgoingRow c.args.id.now) (λ rows accounts p. outgoing_read _ _ rows accounts p owner c.args.id.now)
