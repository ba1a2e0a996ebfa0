use Rattle.std.proofs.Common.{arith, ◌≡◌, Err, rules}
use Rattle.store_tables.specs.Schema.{schema_3, schema_6, mail_schema}
use Rattle.store_tables.proofs.CreateLemmas.{makes_then, makes_failed}
use Rattle.store_tables.proofs.table.make_others.Goals as goal

pub returns-in_err-make_later : goal.returns-in_err-make_later
returns-in_err-make_later g c =
    let e = c.in_err-make_later.field-0.0 in
    let is : c.from_residual.result ≡ Err e = search rules in
    makes_failed g.S.Store c.args.tx.now c.make_later.new.tx schema_3 schema_6 mail_schema c.make_later.result e c.from_residual.result is c.make_later.ensures

pub returns : goal.returns
returns g c =
    makes_then g.S.Store c.args.tx.now c.make_later.new.tx c.make_folders.new.tx schema_3 schema_6 mail_schema c.make_later.result _ c.make_folders.result c.in_ok-make_later.was (omega arith) c.make_later.ensures c.make_folders.ensures
