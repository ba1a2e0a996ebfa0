use Rattle.std.proofs.Common.{◌≡◌, Err, rules}
use Rattle.store_tables.specs.Schema.{schema_6, mail_schema}
use Rattle.store_tables.specs.Connection.{TurnsSchema}
use Rattle.store_versions.specs.Migration.{LosesCopies, Remakes}
use Rattle.store_tables.proofs.CreateLemmas.{inside_then, inside_failed}
use Rattle.store_versions.proofs.MigrationLemmas.{remakes}
use Rattle.store_versions.proofs.migration.remake.Goals as goal

pub returns-in_err-drop_copy : goal.returns-in_err-drop_copy
returns-in_err-drop_copy g c =
    let e = c.in_err-drop_copy.field-0.0 in
    let is : c.from_residual.result ≡ Err e = search rules in
    inside_failed g.S.Store LosesCopies Remakes c.args.tx.now c.drop_copy.new.tx c.drop_copy.result e c.from_residual.result is c.drop_copy.ensures

pub returns : goal.returns
returns g c =
    inside_then g.S.Store LosesCopies (TurnsSchema schema_6 mail_schema) Remakes remakes c.args.tx.now c.drop_copy.new.tx c.make_folders.new.tx c.drop_copy.result _ c.make_folders.result c.in_ok-drop_copy.was
    c.drop_copy.ensures c.make_folders.ensures
