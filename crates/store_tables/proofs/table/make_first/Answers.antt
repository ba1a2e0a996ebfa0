use Rattle.std.proofs.Common.{arith}
use Rattle.store_tables.specs.Schema.{no_schema, schema_1, schema_2, schema_3}
use Rattle.store_tables.proofs.CreateLemmas.{makes_then}
use Rattle.store_tables.proofs.table.make_first.Goals as goal

pub returns : goal.returns
returns g c =
    let start = c.args.tx.now in
    let one = c.make_meta.new.tx in
    let two = c.make_account.new.tx in
    let three = c.make_script.new.tx in
    let both = makes_then g.S.Store start one two no_schema schema_1 schema_2 c.make_meta.result _ c.make_account.result c.in_ok-make_meta.was (omega arith) c.make_meta.ensures c.make_account.ensures in
    makes_then g.S.Store start two three no_schema schema_2 schema_3 c.make_account.result _ c.make_script.result c.in_ok-make_account.was (omega arith) both c.make_script.ensures
