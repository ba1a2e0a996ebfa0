use Rattle.std.proofs.Common.{refl}
use Rattle.store_tables.specs.Schema.{schema_4}
use Rattle.store_tables.specs.ReplyTable.{reply, create_reply}
use Rattle.store_tables.proofs.WriteLemmas.{statement_makes}
use Rattle.store_tables.proofs.SchemaFacts.{reply_defined, reply_creates}
use Rattle.store_tables.proofs.CreateLemmas.{creates}
use Rattle.store_tables.proofs.reply.make_reply.Goals as goal

pub returns : goal.returns
returns g c =
    statement_makes g.S.Store _ _ _ c.args.tx.now c.execute.new.tx c.execute.result (creates schema_4 create_reply (record reply { tree = 0 }) reply_defined reply_creates.0 reply_creates.1 reply_creates.2 refl _ _)
    c.execute.ensures
