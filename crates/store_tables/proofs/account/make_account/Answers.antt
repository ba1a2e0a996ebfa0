use Rattle.std.proofs.Common.{refl}
use Rattle.store_tables.specs.Schema.{schema_1}
use Rattle.store_tables.specs.AccountTable.{account, create_account}
use Rattle.store_tables.proofs.WriteLemmas.{statement_makes}
use Rattle.store_tables.proofs.SchemaFacts.{account_defined, account_creates}
use Rattle.store_tables.proofs.CreateLemmas.{creates}
use Rattle.store_tables.proofs.account.make_account.Goals as goal

pub returns : goal.returns
returns g c =
    statement_makes g.S.Store _ _ _ c.args.tx.now c.execute.new.tx c.execute.result (creates schema_1 create_account (record account { tree = 0 }) account_defined account_creates.0 account_creates.1 account_creates.2 refl _ _)
    c.execute.ensures
