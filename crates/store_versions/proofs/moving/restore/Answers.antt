use Rattle.std.proofs.Common.{◌≡◌, Err, rules}
use Rattle.store_tables.specs.Connection.{TurnsRows}
use Rattle.store_tables.specs.Rows.{Tables}
use Rattle.store_tables.specs.QueueTable.{outgoing_tree}
use Rattle.store_tables.specs.ReplyTable.{reply_tree}
use Rattle.store_tables.specs.NoticeTable.{notice_tree}
use Rattle.store_versions.specs.OldSchema.{queue_columns, four_cells}
use Rattle.store_versions.specs.Migration.{rows_joined, restored}
use Rattle.store_versions.proofs.MigrationLemmas.{keeps_chain, keeps_failed}
use Rattle.store_versions.proofs.moving.restore.Goals as goal

pub returns-in_err-fill_queue : goal.returns-in_err-fill_queue
returns-in_err-fill_queue g c =
    let e = c.in_err-fill_queue.field-0.0 in
    let is : c.from_residual.result ≡ Err e = search rules in
    keeps_failed g.S.Store _ (TurnsRows (restored c.args.later.now)) c.args.tx.now c.fill_queue.new.tx c.fill_queue.result e c.from_residual.result is c.fill_queue.ensures

pub returns-in_err-fill_replies : goal.returns-in_err-fill_replies
returns-in_err-fill_replies g c =
    let e = c.in_err-fill_replies.field-0.0 in
    let is : c.from_residual-in_err-fill_replies.result ≡ Err e = search rules in
    let both = keeps_chain g.S.Store _ _ (λ _ _. Unit {0}) c.args.tx.now c.fill_queue.new.tx c.fill_replies.new.tx c.fill_queue.result _ c.in_ok-fill_queue.was c.fill_replies.result c.fill_queue.ensures c.fill_replies.ensures (λ _ _ _ _ _. tt) in
    keeps_failed g.S.Store (λ _ _. Unit {0}) (TurnsRows (restored c.args.later.now)) c.args.tx.now c.fill_replies.new.tx c.fill_replies.result e c.from_residual-in_err-fill_replies.result is both

pub returns : goal.returns
returns g c =
    let later = c.args.later.now in
    let queue : Tables → Tables = rows_joined outgoing_tree queue_columns later.queue.items in
    let replies : Tables → Tables = rows_joined reply_tree four_cells later.replies.items in
    let notices : Tables → Tables = rows_joined notice_tree four_cells later.notices.items in
    let both = keeps_chain g.S.Store (TurnsRows queue) (TurnsRows replies) (TurnsRows (λ tables. replies (queue tables))) c.args.tx.now c.fill_queue.new.tx c.fill_replies.new.tx c.fill_queue.result _ c.in_ok-fill_queue.was c.fill_replies.result
    (rw (c.deref.ensures.value) at c.fill_queue.ensures) (rw (c.deref-2.ensures.value) at c.fill_replies.ensures) (λ _ _ _ first second tables h. second (queue tables) (first tables h)) in
    keeps_chain g.S.Store (TurnsRows (λ tables. replies (queue tables))) (TurnsRows notices) (TurnsRows (restored later)) c.args.tx.now c.fill_replies.new.tx c.fill_notices.new.tx c.fill_replies.result _ c.in_ok-fill_replies.was c.fill_notices.result
    both (rw (c.deref-3.ensures.value) at c.fill_notices.ensures) (λ _ _ _ first second tables h. second (replies (queue tables)) (first tables h))
