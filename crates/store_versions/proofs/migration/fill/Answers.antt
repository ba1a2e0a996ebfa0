use Rattle.std.proofs.Common.{◌≡◌, ◌+◌, refl, Ok, Err, take, rules, subst, arith}
use Rattle.std.proofs.lemmas.List.{take_all}
use Rattle.store_tables.specs.Connection.{RunsInside, TurnsRows}
use Rattle.store_versions.specs.Migration.{filled, refiled, old_copy_cells}
use Rattle.store_versions.proofs.MigrationLemmas.{none_filled, keeps_failed, keeps_stopped, keeps_more, one_more_filled}
use Rattle.store_versions.proofs.migration.fill.Goals as goal
use Rattle.store_versions.specs.Inside.{TurnsInside}

pub loop-row-init : goal.loop-row-init
loop-row-init g c = none_filled g.S.Store c.args.tx.now

pub returns-in_err-copy : goal.returns-in_err-copy
returns-in_err-copy g c =
    let e = c.in_err-copy.field-0.0 in
    let is : c.from_residual.result ≡ Err e = search rules in
    keeps_failed g.S.Store _ (TurnsRows (filled c.args.rows.now)) c.args.tx.now c.loop-row.tx _ e c.from_residual.result is c.loop-row.invariant

pub returns-in_err-refile : goal.returns-in_err-refile
returns-in_err-refile g c =
    let e = c.in_err-refile.field-0.0 in
    let is : c.from_residual-in_err-refile.result ≡ Err e = search rules in
    keeps_stopped g.S.Store _ _ (TurnsRows (filled c.args.rows.now)) c.args.tx.now c.loop-row.tx c.refile.new.tx _ _ refl c.refile.result c.loop-row.invariant c.refile.ensures e c.from_residual-in_err-refile.result is

pub loop-row-preserved : goal.loop-row-preserved
loop-row-preserved g c =
    let at = c.loop-row.row-index in
    let shown = rw (c.row-item.is) at (rw (c.in_ok-copy.was) at c.copy_in.ensures) in
    keeps_more g.S.Store (TurnsRows (filled (take at c.args.rows.now))) (TurnsRows (refiled (old_copy_cells c.in_ok-copy.copy))) (TurnsRows (filled (take (at + 1) c.args.rows.now))) c.args.tx.now c.loop-row.tx c.refile.new.tx _ _ refl c.refile.result
    c.loop-row.invariant c.refile.ensures (one_more_filled c.args.rows.now at _ (old_copy_cells c.in_ok-copy.copy) c.loop-row-test.true shown _ _ _) _ c.in_ok-refile.was _

pub returns : goal.returns
returns g c =
    let whole = take_all c.loop-row.row-index c.args.rows.now (omega arith) in
    subst (λ rows. RunsInside {X = Unit {0}} g.S.Store (TurnsInside (TurnsRows (filled rows))) c.args.tx.now c.loop-row.tx (Ok tt)) whole c.loop-row.invariant
