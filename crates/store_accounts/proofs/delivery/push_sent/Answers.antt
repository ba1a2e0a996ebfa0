use Rattle.std.proofs.Common.{◌≡◌, ℕ, List, subst}
use Rattle.store_tables.specs.Rows.{Tables}
use Rattle.store_tables.specs.Changes.{ExtendsChanges}
use Rattle.store_accounts.specs.Delivery.{moment_put}
use Rattle.store_accounts.proofs.DeliveryLemmas.{fold_more}
use Rattle.store_accounts.proofs.delivery.push_sent.Goals as goal

pub loop-handle-preserved : goal.loop-handle-preserved
loop-handle-preserved c =
    let user = c.args.user.now in
    let put : Tables → List ℕ → Tables = λ rows handle. moment_put user handle c.args.message.now c.args.moment rows in
    fold_more user put c.args.handles.now c.loop-handle.handle-index _ c.args.changes.now.items c.loop-handle.changes.items c.push_kept.new.changes.items c.loop-handle-test.true c.loop-handle.invariant
    (subst (λ handle. ExtendsChanges user (λ own. put own handle) c.loop-handle.changes.items c.push_kept.new.changes.items) c.handle-item.is c.in_ok-push_kept.ensures.kept)
