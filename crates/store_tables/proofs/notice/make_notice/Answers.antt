use Rattle.std.proofs.Common.{refl}
use Rattle.store_tables.specs.Schema.{schema_5}
use Rattle.store_tables.specs.NoticeTable.{notice, create_notice}
use Rattle.store_tables.proofs.SchemaFacts.{notice_defined, notice_creates}
use Rattle.store_tables.proofs.WriteLemmas.{statement_makes}
use Rattle.store_tables.proofs.CreateLemmas.{creates}
use Rattle.store_tables.proofs.notice.make_notice.Goals as goal

pub returns : goal.returns
returns g c =
    statement_makes g.S.Store _ _ _ c.args.tx.now c.execute.new.tx c.execute.result
    (creates schema_5 create_notice (record notice { tree = 0 }) notice_defined notice_creates.0 notice_creates.1 notice_creates.2 refl _ _) c.execute.ensures
