use Rattle.std.proofs.Common.{◌≡◌, ◌+◌, refl, Ok, Err, take, rules, subst, arith}
use Rattle.std.proofs.lemmas.List.{take_all}
use Rattle.store_tables.specs.Connection.{RunsInside, TurnsRows}
use Rattle.store_tables.specs.ReplyTable.{reply_tree}
use Rattle.store_versions.specs.OldSchema.{four_cells}
use Rattle.store_tables.specs.Rows.{row_added}
use Rattle.store_versions.specs.Migration.{rows_joined, replied_cells}
use Rattle.store_versions.proofs.MovingLemmas.{one_more_joined}
use Rattle.store_versions.proofs.MigrationLemmas.{none_joined, keeps_failed, keeps_stopped, keeps_more}
use Rattle.store_versions.proofs.moving.fill_replies.Goals as goal
use Rattle.store_versions.specs.Inside.{TurnsInside}

pub loop-row-init : goal.loop-row-init
loop-row-init g c = none_joined g.S.Store reply_tree four_cells c.args.tx.now

pub returns-in_err-replied : goal.returns-in_err-replied
returns-in_err-replied g c =
    let e = c.in_err-replied.field-0.0 in
    let is : c.from_residual.result ≡ Err e = search rules in
    keeps_failed g.S.Store _ (TurnsRows (rows_joined reply_tree four_cells c.args.rows.now)) c.args.tx.now c.loop-row.tx _ e c.from_residual.result is c.loop-row.invariant

pub returns-in_err-rereply : goal.returns-in_err-rereply
returns-in_err-rereply g c =
    let e = c.in_err-rereply.field-0.0 in
    let is : c.from_residual-in_err-rereply.result ≡ Err e = search rules in
    keeps_stopped g.S.Store _ _ (TurnsRows (rows_joined reply_tree four_cells c.args.rows.now)) c.args.tx.now c.loop-row.tx c.rereply.new.tx _ _ refl c.rereply.result c.loop-row.invariant c.rereply.ensures e c.from_residual-in_err-rereply.result is

pub loop-row-preserved : goal.loop-row-preserved
loop-row-preserved g c =
    let at = c.loop-row.row-index in
    let shown = rw (c.row-item.is) at (rw (c.in_ok-replied.was) at c.replied_in.ensures) in
    keeps_more g.S.Store (TurnsRows (rows_joined reply_tree four_cells (take at c.args.rows.now))) (TurnsRows (row_added reply_tree (replied_cells c.in_ok-replied.replied))) (TurnsRows (rows_joined reply_tree four_cells (take (at + 1) c.args.rows.now))) c.args.tx.now c.loop-row.tx c.rereply.new.tx _ _ refl c.rereply.result
    c.loop-row.invariant c.rereply.ensures (one_more_joined reply_tree four_cells c.args.rows.now at _ (replied_cells c.in_ok-replied.replied) c.loop-row-test.true shown _ _ _) _ c.in_ok-rereply.was _

pub returns : goal.returns
returns g c =
    let whole = take_all c.loop-row.row-index c.args.rows.now (omega arith) in
    subst (λ rows. RunsInside {X = Unit {0}} g.S.Store (TurnsInside (TurnsRows (rows_joined reply_tree four_cells rows))) c.args.tx.now c.loop-row.tx (Ok tt)) whole c.loop-row.invariant
