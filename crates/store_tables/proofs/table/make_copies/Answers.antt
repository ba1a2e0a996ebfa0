use Rattle.std.proofs.Common.{arith, ◌≡◌, Err, rules}
use Rattle.store_tables.specs.Schema.{schema_7, schema_8, mail_schema}
use Rattle.store_tables.proofs.CreateLemmas.{makes_then, makes_failed}
use Rattle.store_tables.proofs.table.make_copies.Goals as goal

pub returns-in_err-make_copy : goal.returns-in_err-make_copy
returns-in_err-make_copy g c =
    let e = c.in_err-make_copy.field-0.0 in
    let is : c.from_residual.result ≡ Err e = search rules in
    makes_failed g.S.Store c.args.tx.now c.make_copy.new.tx schema_7 schema_8 mail_schema c.make_copy.result e c.from_residual.result is c.make_copy.ensures

pub returns : goal.returns
returns g c =
    makes_then g.S.Store c.args.tx.now c.make_copy.new.tx c.make_copy_message.new.tx schema_7 schema_8 mail_schema c.make_copy.result _ c.make_copy_message.result c.in_ok-make_copy.was (omega arith) c.make_copy.ensures c.make_copy_message.ensures
