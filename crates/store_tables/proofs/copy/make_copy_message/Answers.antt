use Rattle.store_tables.specs.Connection.{TurnsSchema}
use Rattle.store_tables.specs.Schema.{mail_schema, schema_8}
use Rattle.store_tables.proofs.WriteLemmas.{statement_makes}
use Rattle.store_tables.proofs.CreateLemmas.{makes_index}
use Rattle.store_tables.proofs.copy.make_copy_message.Goals as goal

pub returns : goal.returns
returns g c = statement_makes g.S.Store (TurnsSchema schema_8 mail_schema) _ _ c.args.tx.now c.execute.new.tx c.execute.result (makes_index _ _) c.execute.ensures
