use Rattle.std.proofs.Common.{arith, ◌≡◌, Err, rules}
use Rattle.store_tables.specs.Schema.{schema_6, schema_7, mail_schema}
use Rattle.store_tables.proofs.CreateLemmas.{makes_then, makes_failed}
use Rattle.store_tables.proofs.table.make_folders.Goals as goal

pub returns-in_err-make_message : goal.returns-in_err-make_message
returns-in_err-make_message g c =
    let e = c.in_err-make_message.field-0.0 in
    let is : c.from_residual.result ≡ Err e = search rules in
    makes_failed g.S.Store c.args.tx.now c.make_message.new.tx schema_6 schema_7 mail_schema c.make_message.result e c.from_residual.result is c.make_message.ensures

pub returns : goal.returns
returns g c =
    makes_then g.S.Store c.args.tx.now c.make_message.new.tx c.make_copies.new.tx schema_6 schema_7 mail_schema c.make_message.result _ c.make_copies.result c.in_ok-make_message.was (omega arith) c.make_message.ensures c.make_copies.ensures
