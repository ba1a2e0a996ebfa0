use Rattle.std.proofs.Common.{refl}
use Rattle.store_tables.specs.Schema.{no_schema}
use Rattle.store_tables.specs.MetaTable.{meta, create_meta}
use Rattle.store_tables.proofs.WriteLemmas.{statement_makes}
use Rattle.store_tables.proofs.SchemaFacts.{meta_defined, meta_creates}
use Rattle.store_tables.proofs.CreateLemmas.{creates}
use Rattle.store_tables.proofs.version.make_meta.Goals as goal

pub returns : goal.returns
returns g c =
    statement_makes g.S.Store _ _ _ c.args.tx.now c.execute.new.tx c.execute.result (creates no_schema create_meta (record meta { tree = 0 }) meta_defined meta_creates.0 meta_creates.1 meta_creates.2 refl _ _)
    c.execute.ensures
