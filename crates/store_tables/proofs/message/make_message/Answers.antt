use Rattle.std.proofs.Common.{refl}
use Rattle.store_tables.specs.Schema.{schema_6}
use Rattle.store_tables.specs.MessageTable.{message, create_message}
use Rattle.store_tables.proofs.WriteLemmas.{statement_makes}
use Rattle.store_tables.proofs.SchemaFacts.{message_defined, message_creates}
use Rattle.store_tables.proofs.CreateLemmas.{creates}
use Rattle.store_tables.proofs.message.make_message.Goals as goal

pub returns : goal.returns
returns g c =
    statement_makes g.S.Store _ _ _ c.args.tx.now c.execute.new.tx c.execute.result (creates schema_6 create_message (record message { tree = 0 }) message_defined message_creates.0 message_creates.1 message_creates.2 refl _ _)
    c.execute.ensures
