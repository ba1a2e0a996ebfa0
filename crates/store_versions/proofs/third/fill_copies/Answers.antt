use Rattle.std.proofs.Common.{◌≡◌, ◌+◌, refl, Ok, Err, take, rules, subst, arith}
use Rattle.std.proofs.lemmas.List.{take_all}
use Rattle.store_tables.specs.Connection.{RunsInside, TurnsRows}
use Rattle.store_tables.specs.CopyTable.{copy_tree}
use Rattle.store_versions.specs.SecondSchema.{flagless}
use Rattle.store_tables.specs.Rows.{row_added}
use Rattle.store_versions.specs.Migration.{rows_joined}
use Rattle.store_versions.specs.Third.{third_cells}
use Rattle.store_versions.proofs.MovingLemmas.{one_more_joined}
use Rattle.store_versions.proofs.MigrationLemmas.{none_joined, keeps_failed, keeps_stopped, keeps_more}
use Rattle.store_versions.proofs.third.fill_copies.Goals as goal
use Rattle.store_versions.specs.Inside.{TurnsInside}

pub loop-row-init : goal.loop-row-init
loop-row-init g c = none_joined g.S.Store copy_tree flagless c.args.tx.now

pub returns-in_err-copy : goal.returns-in_err-copy
returns-in_err-copy g c =
    let e = c.in_err-copy.field-0.0 in
    let is : c.from_residual.result ≡ Err e = search rules in
    keeps_failed g.S.Store _ (TurnsRows (rows_joined copy_tree flagless c.args.rows.now)) c.args.tx.now c.loop-row.tx _ e c.from_residual.result is c.loop-row.invariant

pub returns-in_err-recopy : goal.returns-in_err-recopy
returns-in_err-recopy g c =
    let e = c.in_err-recopy.field-0.0 in
    let is : c.from_residual-in_err-recopy.result ≡ Err e = search rules in
    keeps_stopped g.S.Store _ _ (TurnsRows (rows_joined copy_tree flagless c.args.rows.now)) c.args.tx.now c.loop-row.tx c.recopy.new.tx _ _ refl c.recopy.result c.loop-row.invariant c.recopy.ensures e c.from_residual-in_err-recopy.result is

pub loop-row-preserved : goal.loop-row-preserved
loop-row-preserved g c =
    let at = c.loop-row.row-index in
    let shown = rw (c.row-item.is) at (rw (c.in_ok-copy.was) at c.second_in.ensures) in
    keeps_more g.S.Store (TurnsRows (rows_joined copy_tree flagless (take at c.args.rows.now))) (TurnsRows (row_added copy_tree (third_cells c.in_ok-copy.copy))) (TurnsRows (rows_joined copy_tree flagless (take (at + 1) c.args.rows.now))) c.args.tx.now c.loop-row.tx c.recopy.new.tx _ _ refl c.recopy.result
    c.loop-row.invariant c.recopy.ensures (one_more_joined copy_tree flagless c.args.rows.now at _ (third_cells c.in_ok-copy.copy) c.loop-row-test.true shown _ _ _) _ c.in_ok-recopy.was _

pub returns : goal.returns
returns g c =
    let whole = take_all c.loop-row.row-index c.args.rows.now (omega arith) in
    subst (λ rows. RunsInside {X = Unit {0}} g.S.Store (TurnsInside (TurnsRows (rows_joined copy_tree flagless rows))) c.args.tx.now c.loop-row.tx (Ok tt)) whole c.loop-row.invariant
