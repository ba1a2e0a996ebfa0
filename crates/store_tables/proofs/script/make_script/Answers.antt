use Rattle.std.proofs.Common.{refl}
use Rattle.store_tables.specs.Schema.{schema_2}
use Rattle.store_tables.specs.ScriptTable.{script, create_script}
use Rattle.store_tables.proofs.WriteLemmas.{statement_makes}
use Rattle.store_tables.proofs.SchemaFacts.{script_defined, script_creates}
use Rattle.store_tables.proofs.CreateLemmas.{creates}
use Rattle.store_tables.proofs.script.make_script.Goals as goal

pub returns : goal.returns
returns g c =
    statement_makes g.S.Store _ _ _ c.args.tx.now c.execute.new.tx c.execute.result (creates schema_2 create_script (record script { tree = 0 }) script_defined script_creates.0 script_creates.1 script_creates.2 refl _ _)
    c.execute.ensures
