use Rattle.std.proofs.Common.{refl}
use Rattle.store_tables.specs.Schema.{schema_3}
use Rattle.store_tables.specs.QueueTable.{outgoing, create_outgoing}
use Rattle.store_tables.proofs.WriteLemmas.{statement_makes}
use Rattle.store_tables.proofs.SchemaFacts.{outgoing_defined, outgoing_creates}
use Rattle.store_tables.proofs.CreateLemmas.{creates}
use Rattle.store_tables.proofs.queue.make_outgoing.Goals as goal

pub returns : goal.returns
returns g c =
    statement_makes g.S.Store _ _ _ c.args.tx.now c.execute.new.tx c.execute.result (creates schema_3 create_outgoing (record outgoing { tree = 0 }) outgoing_defined outgoing_creates.0 outgoing_creates.1 outgoing_creates.2 refl _ _)
    c.execute.ensures
