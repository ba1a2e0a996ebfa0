use Rattle.std.proofs.Common.{◌≡◌, Ok, rules}
use Rattle.store_tables.proofs.ListLemmas.{owner_key}
use Rattle.store_tables.specs.QueueTable.{select_queue}
use Rattle.store_tables.proofs.TextFacts.{select_queue_plain}
use Rattle.store_accounts.specs.declared.refusal.Refusal.{Refusal}
use Rattle.store_accounts.specs.FirstCells.{first_five}
use Rattle.store_accounts.specs.QueueRows.{AreQueueRows, outgoing_cells}
use Rattle.store_accounts.proofs.ReadLemmas.{queue_read}
use Rattle.store_accounts.proofs.DecodeLemmas.{queue_is}
use Rattle.store_accounts.proofs.EachLemmas.{reads_entered}
use Rattle.store_accounts.proofs.store.Store.queue_of.Goals as goal

pub read_each-requires-clause-plain : goal.read_each-requires-clause-plain
read_each-requires-clause-plain g c = select_queue_plain.0

pub returns : goal.returns
returns g c =
    let same : c.self.inside.conn ≡ c.args.self.now = search rules in
    let user = c.args.user.now in
    (rw same at (reads_entered g.S.Store select_queue (owner_key user) outgoing_cells first_five c.self.inside.conn c.read_each.new.conn c.read_each.result user AreQueueRows (λ queue a. queue ≡ a.queue)
    (λ rows accounts p. queue_read _ _ rows accounts p user) (λ rows all a are is. queue_is {E = Refusal} (Ok all) rows a is are) (rw (c.params-to_sql.ensures) at c.read_each.ensures))).finds
