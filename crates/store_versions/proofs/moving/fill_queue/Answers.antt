use Rattle.std.proofs.Common.{◌≡◌, ◌+◌, refl, Ok, Err, take, rules, subst, arith}
use Rattle.std.proofs.lemmas.List.{take_all}
use Rattle.store_tables.specs.Connection.{RunsInside, TurnsRows}
use Rattle.store_tables.specs.QueueTable.{outgoing_tree}
use Rattle.store_versions.specs.OldSchema.{queue_columns}
use Rattle.store_tables.specs.Rows.{row_added}
use Rattle.store_versions.specs.Migration.{rows_joined, queued_cells}
use Rattle.store_versions.proofs.MovingLemmas.{one_more_joined}
use Rattle.store_versions.proofs.MigrationLemmas.{none_joined, keeps_failed, keeps_stopped, keeps_more}
use Rattle.store_versions.proofs.moving.fill_queue.Goals as goal
use Rattle.store_versions.specs.Inside.{TurnsInside}

pub loop-row-init : goal.loop-row-init
loop-row-init g c = none_joined g.S.Store outgoing_tree queue_columns c.args.tx.now

pub returns-in_err-queued : goal.returns-in_err-queued
returns-in_err-queued g c =
    let e = c.in_err-queued.field-0.0 in
    let is : c.from_residual.result ≡ Err e = search rules in
    keeps_failed g.S.Store _ (TurnsRows (rows_joined outgoing_tree queue_columns c.args.rows.now)) c.args.tx.now c.loop-row.tx _ e c.from_residual.result is c.loop-row.invariant

pub returns-in_err-requeue : goal.returns-in_err-requeue
returns-in_err-requeue g c =
    let e = c.in_err-requeue.field-0.0 in
    let is : c.from_residual-in_err-requeue.result ≡ Err e = search rules in
    keeps_stopped g.S.Store _ _ (TurnsRows (rows_joined outgoing_tree queue_columns c.args.rows.now)) c.args.tx.now c.loop-row.tx c.requeue.new.tx _ _ refl c.requeue.result c.loop-row.invariant c.requeue.ensures e c.from_residual-in_err-requeue.result is

pub loop-row-preserved : goal.loop-row-preserved
loop-row-preserved g c =
    let at = c.loop-row.row-index in
    let shown = rw (c.row-item.is) at (rw (c.in_ok-queued.was) at c.queued_in.ensures) in
    keeps_more g.S.Store (TurnsRows (rows_joined outgoing_tree queue_columns (take at c.args.rows.now))) (TurnsRows (row_added outgoing_tree (queued_cells c.in_ok-queued.queued))) (TurnsRows (rows_joined outgoing_tree queue_columns (take (at + 1) c.args.rows.now))) c.args.tx.now c.loop-row.tx c.requeue.new.tx _ _ refl c.requeue.result
    c.loop-row.invariant c.requeue.ensures (one_more_joined outgoing_tree queue_columns c.args.rows.now at _ (queued_cells c.in_ok-queued.queued) c.loop-row-test.true shown _ _ _) _ c.in_ok-requeue.was _

pub returns : goal.returns
returns g c =
    let whole = take_all c.loop-row.row-index c.args.rows.now (omega arith) in
    subst (λ rows. RunsInside {X = Unit {0}} g.S.Store (TurnsInside (TurnsRows (rows_joined outgoing_tree queue_columns rows))) c.args.tx.now c.loop-row.tx (Ok tt)) whole c.loop-row.invariant
