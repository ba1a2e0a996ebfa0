use Rattle.std.proofs.Common.{◌≡◌, Err, rules}
use Rattle.store_tables.specs.Connection.{TurnsSchema}
use Rattle.store_tables.specs.Schema.{schema_3, schema_6, mail_schema}
use Rattle.store_versions.specs.OldSchema.{oldest_schema}
use Rattle.store_versions.specs.Migration.{RemakesAll}
use Rattle.store_tables.proofs.CreateLemmas.{inside_then, inside_failed}
use Rattle.store_versions.proofs.MovingLemmas.{Halfway, halfway, remakes_all}
use Rattle.store_versions.proofs.moving.remake_all.Goals as goal
use Rattle.store_versions.specs.Inside.{LosesTable}

pub returns-in_err-drop_from_copy : goal.returns-in_err-drop_from_copy
returns-in_err-drop_from_copy g c =
    let e = c.in_err-drop_from_copy.field-0.0 in
    let is : c.from_residual.result ≡ Err e = search rules in
    inside_failed g.S.Store (LosesTable oldest_schema schema_3) RemakesAll c.args.tx.now c.drop_from_copy.new.tx c.drop_from_copy.result e c.from_residual.result is c.drop_from_copy.ensures

pub returns-in_err-make_later : goal.returns-in_err-make_later
returns-in_err-make_later g c =
    let e = c.in_err-make_later.field-0.0 in
    let is : c.from_residual-in_err-make_later.result ≡ Err e = search rules in
    let both = inside_then g.S.Store (LosesTable oldest_schema schema_3) (TurnsSchema schema_3 schema_6) Halfway halfway c.args.tx.now c.drop_from_copy.new.tx c.make_later.new.tx c.drop_from_copy.result _ c.make_later.result c.in_ok-drop_from_copy.was
    c.drop_from_copy.ensures c.make_later.ensures in
    inside_failed g.S.Store Halfway RemakesAll c.args.tx.now c.make_later.new.tx c.make_later.result e c.from_residual-in_err-make_later.result is both

pub returns : goal.returns
returns g c =
    let both = inside_then g.S.Store (LosesTable oldest_schema schema_3) (TurnsSchema schema_3 schema_6) Halfway halfway c.args.tx.now c.drop_from_copy.new.tx c.make_later.new.tx c.drop_from_copy.result _ c.make_later.result c.in_ok-drop_from_copy.was
    c.drop_from_copy.ensures c.make_later.ensures in
    inside_then g.S.Store Halfway (TurnsSchema schema_6 mail_schema) RemakesAll remakes_all c.args.tx.now c.make_later.new.tx c.make_folders.new.tx c.make_later.result _ c.make_folders.result c.in_ok-make_later.was both c.make_folders.ensures
