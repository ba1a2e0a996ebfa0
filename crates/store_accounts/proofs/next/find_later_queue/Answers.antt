use Rattle.store_tables.specs.QueueTable.{select_later_queue}
use Rattle.store_accounts.specs.Next.{IsLaterQueue, ShowQueued}
use Rattle.store_tables.proofs.TextFacts.{select_later_queue_plain}
use Rattle.store_accounts.proofs.AllLemmas.{finds_all}
use Rattle.store_accounts.proofs.NextLemmas.{owner_params, later_queue_read}
use Rattle.store_accounts.proofs.next.find_later_queue.Goals as goal

pub returns : goal.returns
returns g c =
    finds_all g.S.Store select_later_queue (owner_params c.args.owner.now) select_later_queue_plain.0 c.args.conn.now c.query.new.conn c.query.result (rw c.params-to_sql.ensures at c.query.ensures) (ShowQueued (IsLaterQueue c.args.owner.now)) (λ rows tables h. later_queue_read _ _ rows tables h c.args.owner.now)
