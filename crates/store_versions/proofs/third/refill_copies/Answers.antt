use Rattle.std.proofs.Common.{◌≡◌, Err, rules}
use Rattle.store_tables.specs.CopyTable.{copy_tree}
use Rattle.store_tables.specs.Connection.{TurnsRows}
use Rattle.store_versions.specs.SecondSchema.{flagless}
use Rattle.store_versions.specs.Migration.{rows_joined, renewed}
use Rattle.store_versions.specs.Third.{flagged}
use Rattle.store_versions.proofs.MigrationLemmas.{keeps_made, keeps_refused}
use Rattle.store_versions.proofs.third.refill_copies.Goals as goal

pub returns-in_err-fill_copies : goal.returns-in_err-fill_copies
returns-in_err-fill_copies g c =
    let e = c.in_err-fill_copies.field-0.0 in
    let is : c.from_residual.result ≡ Err e = search rules in
    keeps_refused g.S.Store _ (TurnsRows (flagged c.args.rows.now)) c.args.tx.now c.fill_copies.new.tx c.fill_copies.result e c.from_residual.result is c.fill_copies.ensures

pub returns : goal.returns
returns g c =
    let rows = c.args.rows.now in
    keeps_made g.S.Store (TurnsRows (rows_joined copy_tree flagless rows)) (TurnsRows renewed) (TurnsRows (flagged rows)) c.args.tx.now c.fill_copies.new.tx c.renew_version.new.tx c.fill_copies.result _ c.in_ok-fill_copies.was c.renew_version.result
    c.fill_copies.ensures c.renew_version.ensures (λ first second tables h. second (rows_joined copy_tree flagless rows tables) (first tables h))
