use Rattle.std.proofs.Common.{◌≡◌, Err, rules}
use Rattle.store_tables.specs.Schema.{schema_3}
use Rattle.store_versions.specs.OldSchema.{oldest_schema, oldest_4}
use Rattle.store_versions.specs.Migration.{LosesCopies}
use Rattle.store_tables.proofs.CreateLemmas.{inside_then, inside_failed}
use Rattle.store_versions.proofs.moving.drop_from_copy.Goals as goal
use Rattle.store_versions.specs.Inside.{LosesTable}

pub returns-in_err-drop_later : goal.returns-in_err-drop_later
returns-in_err-drop_later g c =
    let e = c.in_err-drop_later.field-0.0 in
    let is : c.from_residual.result ≡ Err e = search rules in
    inside_failed g.S.Store (LosesTable oldest_schema oldest_4) (LosesTable oldest_schema schema_3) c.args.tx.now c.drop_later.new.tx c.drop_later.result e c.from_residual.result is c.drop_later.ensures

pub returns : goal.returns
returns g c =
    inside_then g.S.Store (LosesTable oldest_schema oldest_4) LosesCopies (LosesTable oldest_schema schema_3) (λ _ _ _ first second tables h. second.fourth tables (first tables h)) c.args.tx.now c.drop_later.new.tx c.drop_copy.new.tx
    c.drop_later.result _ c.drop_copy.result c.in_ok-drop_later.was c.drop_later.ensures c.drop_copy.ensures
