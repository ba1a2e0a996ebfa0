use Rattle.std.proofs.Common.{◌≡◌, Ok, map, rules}
use Rattle.store_tables.proofs.ListLemmas.{owner_key}
use Rattle.store_tables.specs.QueueTable.{select_heads}
use Rattle.store_tables.proofs.TextFacts.{select_heads_plain}
use Rattle.store_accounts.specs.declared.refusal.Refusal.{Refusal}
use Rattle.store_accounts.specs.FirstCells.{first_five}
use Rattle.store_accounts.specs.HeadRows.{AreHeadRows, head_cells, queued_envelope}
use Rattle.store_accounts.proofs.HeadLemmas.{heads_are, heads_read}
use Rattle.store_accounts.proofs.EachLemmas.{reads_entered}
use Rattle.store_accounts.proofs.store.Store.queue_heads_of.Goals as goal

pub read_each-requires-clause-plain : goal.read_each-requires-clause-plain
read_each-requires-clause-plain g c = select_heads_plain.0

pub returns : goal.returns
returns g c =
    let same : c.self.inside.conn ≡ c.args.self.now = search rules in
    let user = c.args.user.now in
    (rw same at (reads_entered g.S.Store select_heads (owner_key user) head_cells first_five c.self.inside.conn c.read_each.new.conn c.read_each.result user AreHeadRows (λ heads a. heads ≡ map queued_envelope a.queue)
    (λ rows accounts p. heads_read _ _ rows accounts p user) (λ rows all a are is. heads_are {E = Refusal} (Ok all) rows a is are) (rw (c.params-to_sql.ensures) at c.read_each.ensures))).finds
