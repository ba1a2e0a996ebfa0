use Rattle.std.proofs.Common.{◌≡◌, Err, rules}
use Rattle.sqlite.specs.Effect.{Database}
use Rattle.store_versions.specs.OldSchema.{oldest_outgoing_tree, oldest_reply_tree, oldest_notice_tree, queue_columns, four_cells}
use Rattle.store_versions.specs.Migration.{AreOldRows, AreLater}
use Rattle.store_tables.proofs.CreateLemmas.{inside_then}
use Rattle.store_versions.proofs.MigrationLemmas.{found_makes, makes_found, find_failed_find, find_stopped}
use Rattle.store_versions.proofs.MovingLemmas.{later_found}
use Rattle.store_versions.proofs.moving.find_later.Goals as goal

abbrev Any : Database → Database → Type 0
Any old new = Unit {0}

pub returns-in_err-queue : goal.returns-in_err-queue
returns-in_err-queue g c =
    let e = c.in_err-queue.field-0.0 in
    let is : c.from_residual.result ≡ Err e = search rules in
    find_failed_find g.S.Store (AreOldRows oldest_outgoing_tree queue_columns) AreLater c.args.tx.now c.find_queue.new.tx c.find_queue.result e c.from_residual.result is c.find_queue.ensures

pub returns-in_err-replies : goal.returns-in_err-replies
returns-in_err-replies g c =
    let e = c.in_err-replies.field-0.0 in
    let is : c.from_residual-in_err-replies.result ≡ Err e = search rules in
    let one = found_makes g.S.Store (AreOldRows oldest_outgoing_tree queue_columns) c.args.tx.now c.find_queue.new.tx c.find_queue.result c.in_ok-queue.queue c.in_ok-queue.was c.find_queue.ensures in
    find_stopped g.S.Store _ (AreOldRows oldest_reply_tree four_cells) AreLater c.args.tx.now c.find_queue.new.tx c.find_replies.new.tx c.find_queue.result _ c.in_ok-queue.was c.find_replies.result e c.from_residual-in_err-replies.result is one c.find_replies.ensures

pub returns-in_err-notices : goal.returns-in_err-notices
returns-in_err-notices g c =
    let e = c.in_err-notices.field-0.0 in
    let is : c.from_residual-in_err-notices.result ≡ Err e = search rules in
    let one = found_makes g.S.Store (AreOldRows oldest_outgoing_tree queue_columns) c.args.tx.now c.find_queue.new.tx c.find_queue.result c.in_ok-queue.queue c.in_ok-queue.was c.find_queue.ensures in
    let two = found_makes g.S.Store (AreOldRows oldest_reply_tree four_cells) c.find_queue.new.tx c.find_replies.new.tx c.find_replies.result c.in_ok-replies.replies c.in_ok-replies.was c.find_replies.ensures in
    let both = inside_then g.S.Store _ _ Any (λ _ _ _ _ _. tt) c.args.tx.now c.find_queue.new.tx c.find_replies.new.tx c.find_queue.result _ c.find_replies.result c.in_ok-queue.was one two in
    find_stopped g.S.Store Any (AreOldRows oldest_notice_tree four_cells) AreLater c.args.tx.now c.find_replies.new.tx c.find_notices.new.tx c.find_replies.result _ c.in_ok-replies.was c.find_notices.result e c.from_residual-in_err-notices.result is both c.find_notices.ensures

pub returns : goal.returns
returns g c =
    let queue = c.in_ok-queue.queue in
    let replies = c.in_ok-replies.replies in
    let notices = c.in_ok-notices.notices in
    let Queue = AreOldRows oldest_outgoing_tree queue_columns queue in
    let Replies = AreOldRows oldest_reply_tree four_cells replies in
    let Notices = AreOldRows oldest_notice_tree four_cells notices in
    let Two : Database → Database → Type 0 = λ old new. (between : Database) × Queue old between × Replies between new in
    let Three : Database → Database → Type 0 = λ old new. AreLater (record { queue = queue; replies = replies; notices = notices }) old new in
    let one = found_makes g.S.Store (AreOldRows oldest_outgoing_tree queue_columns) c.args.tx.now c.find_queue.new.tx c.find_queue.result queue c.in_ok-queue.was c.find_queue.ensures in
    let two = found_makes g.S.Store (AreOldRows oldest_reply_tree four_cells) c.find_queue.new.tx c.find_replies.new.tx c.find_replies.result replies c.in_ok-replies.was c.find_replies.ensures in
    let three = found_makes g.S.Store (AreOldRows oldest_notice_tree four_cells) c.find_replies.new.tx c.find_notices.new.tx c.find_notices.result notices c.in_ok-notices.was c.find_notices.ensures in
    let both = inside_then g.S.Store Queue Replies Two (λ _ between _ first second. (between, first, second)) c.args.tx.now c.find_queue.new.tx c.find_replies.new.tx c.find_queue.result _ c.find_replies.result c.in_ok-queue.was one two in
    let all = inside_then g.S.Store Two Notices Three (λ old between new first second. later_found (record { queue = queue; replies = replies; notices = notices }) old first.0 between new first.1 first.2 second) c.args.tx.now c.find_replies.new.tx c.find_notices.new.tx
    c.find_replies.result _ c.find_notices.result c.in_ok-replies.was both three in
    makes_found g.S.Store Three AreLater c.args.tx.now c.find_notices.new.tx c.find_notices.result _ c.in_ok-notices.was (record { queue = queue; replies = replies; notices = notices }) (λ _ _ h. h) all
