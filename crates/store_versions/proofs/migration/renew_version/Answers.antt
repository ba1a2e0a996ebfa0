use Rattle.std.proofs.Common.{◌≡◌, Err, rules}
use Rattle.store_tables.specs.Rows.{row_added, rows_removed}
use Rattle.store_tables.specs.Connection.{TurnsRows}
use Rattle.store_tables.specs.MetaTable.{meta_tree, version_key, version_row}
use Rattle.store_versions.specs.Migration.{renewed}
use Rattle.store_tables.proofs.CreateLemmas.{inside_then, inside_failed}
use Rattle.store_versions.proofs.migration.renew_version.Goals as goal

pub returns-in_err-remove_version : goal.returns-in_err-remove_version
returns-in_err-remove_version g c =
    let e = c.in_err-remove_version.field-0.0 in
    let is : c.from_residual.result ≡ Err e = search rules in
    inside_failed g.S.Store _ (TurnsRows renewed) c.args.tx.now c.remove_version.new.tx c.remove_version.result e c.from_residual.result is c.remove_version.ensures

pub returns : goal.returns
returns g c =
    inside_then g.S.Store (TurnsRows (rows_removed meta_tree version_key)) (TurnsRows (row_added meta_tree version_row)) (TurnsRows renewed)
    (λ _ _ _ first second tables held. second (rows_removed meta_tree version_key tables) (first tables held)) c.args.tx.now c.remove_version.new.tx c.add_version.new.tx c.remove_version.result _ c.add_version.result c.in_ok-remove_version.was
    c.remove_version.ensures c.add_version.ensures
