use Rattle.std.proofs.Common.{◌+◌, length, subst, rules}
use Rattle.store_tables.specs.Changes.{ExtendsChanges}
use Rattle.store_accounts.specs.Delivery.{counters_raised, message_kept, copies_added, sent_on, reply_queued, reply_put, noticed}
use Rattle.store_accounts.proofs.DeliveryLemmas.{are_delivery}
use Rattle.store_accounts.proofs.delivery.delivery_changes.Goals as goal

pub returns-clause-delivery : goal.returns-clause-delivery
returns-clause-delivery c is =
    let user = c.args.user.now in
    let folded = c.args.folded.now in
    let counters = c.args.counters in
    let plan = c.args.plan.now in
    let ds1 = c.push_counters.new.changes.items in
    let kept = c.push_message.new.changes.items in
    let ds2 = c.push_copies.new.changes.items in
    let ds3 = c.push_redirects.new.changes.items in
    let forgot = c.push_forgotten.new.changes.items in
    let remembered = c.push_sent.new.changes.items in
    let queued = c.push_reply.new.changes.items in
    let ds4 = c.push_moment.new.changes.items in
    let ds5 = c.push_notice.new.changes.items in
    let reply = subst (λ one. ExtendsChanges user (reply_queued user plan.sender.now (counters.out + length c.as_slice-sent.result.now) one) remembered queued) c.as_ref-reply.ensures.value c.in_ok-push_reply.ensures.queued in
    are_delivery user folded counters plan ds1 kept ds2 ds3 forgot remembered queued ds4 ds5 is (subst (λ ds. ExtendsChanges user (counters_raised user counters plan) ds ds1) c.new-changes.ensures.items c.in_ok-push_counters.ensures.raised)
    (subst (λ copies. ExtendsChanges user (message_kept user plan.message.now counters.copy copies) ds1 kept) c.as_slice-copies.ensures c.in_ok-push_message.ensures.kept)
    (subst (λ copies. ExtendsChanges user (copies_added user counters.copy counters.copy copies) kept ds2) c.as_slice-copies.ensures c.in_ok-push_copies.ensures.copied)
    (subst (λ targets. ExtendsChanges user (sent_on user plan.sender.now plan.message.now counters.out targets) ds2 ds3) c.as_slice-sent.ensures c.in_ok-push_redirects.ensures.sent)
    (search rules) (search rules)
    (subst (λ targets. ExtendsChanges user (reply_queued user plan.sender.now (counters.out + length targets) plan.reply) remembered queued) c.as_slice-sent.ensures reply)
    (subst (λ one. ExtendsChanges user (reply_put user folded one) queued ds4) c.as_ref-reply.ensures.value c.in_ok-push_moment.ensures.put)
    (subst (λ text. ExtendsChanges user (noticed user counters.notice plan.moment text) ds4 ds5) c.as_ref-notice.ensures.value c.in_ok-push_notice.ensures.noticed)
