use Rattle.std.proofs.Common.{◌≡◌, Err, rules}
use Rattle.store_tables.specs.Schema.{schema_7, mail_schema}
use Rattle.store_tables.specs.Connection.{TurnsSchema}
use Rattle.store_versions.specs.Migration.{LosesCopies}
use Rattle.store_versions.specs.Third.{RemakesCopies}
use Rattle.store_tables.proofs.CreateLemmas.{inside_then, inside_failed}
use Rattle.store_versions.proofs.ThirdLemmas.{remakes_copies}
use Rattle.store_versions.proofs.third.remake_copies.Goals as goal

pub returns-in_err-drop_copy : goal.returns-in_err-drop_copy
returns-in_err-drop_copy g c =
    let e = c.in_err-drop_copy.field-0.0 in
    let is : c.from_residual.result ≡ Err e = search rules in
    inside_failed g.S.Store LosesCopies RemakesCopies c.args.tx.now c.drop_copy.new.tx c.drop_copy.result e c.from_residual.result is c.drop_copy.ensures

pub returns : goal.returns
returns g c =
    inside_then g.S.Store LosesCopies (TurnsSchema schema_7 mail_schema) RemakesCopies remakes_copies c.args.tx.now c.drop_copy.new.tx c.make_copies.new.tx c.drop_copy.result _ c.make_copies.result c.in_ok-drop_copy.was
    c.drop_copy.ensures c.make_copies.ensures
