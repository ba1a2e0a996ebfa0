use Rattle.std.proofs.Common.{refl}
use Rattle.store_tables.specs.Schema.{schema_7}
use Rattle.store_tables.specs.CopyTable.{copy, create_copy}
use Rattle.store_tables.proofs.WriteLemmas.{statement_makes}
use Rattle.store_tables.proofs.SchemaFacts.{copy_defined, copy_creates}
use Rattle.store_tables.proofs.CreateLemmas.{creates}
use Rattle.store_tables.proofs.copy.make_copy.Goals as goal

pub returns : goal.returns
returns g c =
    statement_makes g.S.Store _ _ _ c.args.tx.now c.execute.new.tx c.execute.result (creates schema_7 create_copy (record copy { tree = 0 }) copy_defined copy_creates.0 copy_creates.1 copy_creates.2 refl _ _)
    c.execute.ensures
