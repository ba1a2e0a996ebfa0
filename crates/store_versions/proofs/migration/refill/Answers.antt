use Rattle.std.proofs.Common.{◌≡◌, Err, rules}
use Rattle.store_tables.specs.Connection.{TurnsRows}
use Rattle.store_versions.specs.Migration.{filled, renewed}
use Rattle.store_versions.proofs.MigrationLemmas.{keeps_made, keeps_refused}
use Rattle.store_versions.proofs.migration.refill.Goals as goal

pub returns-in_err-fill : goal.returns-in_err-fill
returns-in_err-fill g c =
    let e = c.in_err-fill.field-0.0 in
    let is : c.from_residual.result ≡ Err e = search rules in
    keeps_refused g.S.Store _ (TurnsRows (λ tables. renewed (filled c.args.rows.now tables))) c.args.tx.now c.fill.new.tx c.fill.result e c.from_residual.result is c.fill.ensures

pub returns : goal.returns
returns g c =
    let rows = c.args.rows.now in
    keeps_made g.S.Store (TurnsRows (filled rows)) (TurnsRows renewed) (TurnsRows (λ tables. renewed (filled rows tables))) c.args.tx.now c.fill.new.tx c.renew_version.new.tx c.fill.result _ c.in_ok-fill.was c.renew_version.result
    c.fill.ensures c.renew_version.ensures (λ first second tables h. second (filled rows tables) (first tables h))
