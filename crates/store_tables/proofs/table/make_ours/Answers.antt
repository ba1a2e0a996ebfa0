use Rattle.std.proofs.Common.{arith}
use Rattle.store_tables.specs.Schema.{no_schema, schema_3, mail_schema}
use Rattle.store_tables.proofs.CreateLemmas.{makes_then, ours_then}
use Rattle.store_tables.proofs.table.make_ours.Goals as goal

pub returns : goal.returns
returns g c =
    let start = c.args.tx.now in
    let one = c.make_first.new.tx in
    let two = c.make_others.new.tx in
    let three = c.add_version.new.tx in
    let tables = makes_then g.S.Store start one two no_schema schema_3 mail_schema c.make_first.result _ c.make_others.result c.in_ok-make_first.was (omega arith) c.make_first.ensures c.make_others.ensures in
    ours_then g.S.Store start two three c.make_others.result _ c.add_version.result c.in_ok-make_others.was tables c.add_version.ensures
