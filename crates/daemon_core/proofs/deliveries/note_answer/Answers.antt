use Rattle.std.proofs.Common.{◌≡◌, Some, rules, subst}
use Rattle.std.specs.Ordering.{nat_cmp}
use Rattle.std.specs.BTreeMap as tree
use Rattle.daemon_core.specs.LmtpSteps.{IsDeliveryReply}
use Rattle.daemon_core.specs.MailRules.{lmtp_connection_at}
use Rattle.daemon_core.specs.declared.mail.MailDaemon.{MailDaemon}
use Rattle.daemon_core.proofs.DeliveriesLemmas.{noted, requested_at}
use Rattle.daemon_core.proofs.deliveries.note_answer.Goals as goal

pub answer_delivery-requires : goal.answer_delivery-requires
answer_delivery-requires c =
    let before = c.in-Some.connection.now in
    let was : lmtp_connection_at c.args.mail.now c.args.it.now.id ≡ Some before = search rules in
    requested_at c.args.now c.args.it.now c.args.mail.now c.requires before was

pub returns-clause-notes : goal.returns-clause-notes
returns-clause-notes c =
    let end : MailDaemon = record c.args.mail.now { lmtp_connections = c.get_mut.follows.lender c.answer_delivery.new.self; gathered = record c.args.mail.now.gathered { ids = c.remove.new.self } } in
    let before = c.in-Some.connection.now in
    let later = c.answer_delivery.new.self in
    let became = c.reply_for_delivery-became.result in
    let was : lmtp_connection_at c.args.mail.now c.args.it.now.id ≡ Some before = search rules in
    let put : tree.Updates nat_cmp c.args.mail.now.lmtp_connections (c.get_mut.follows.lender later) c.args.it.now.id (Some later) = search rules in
    let is : IsDeliveryReply c.args.it.now.request.sender c.args.answer.now became = subst (λ x. IsDeliveryReply x c.args.answer.now became) c.as_slice.ensures c.reply_for_delivery-became.ensures in
    noted c.args.now c.args.it.now c.args.mail.now c.requires before was later end put.0 c.answer_delivery.ensures.held c.args.answer.now became is c.answer_delivery.ensures.does

pub returns-clause-one : goal.returns-clause-one
returns-clause-one c =
    let later = c.answer_delivery.new.self in
    let put : tree.Updates nat_cmp c.args.mail.now.lmtp_connections (c.get_mut.follows.lender later) c.args.it.now.id (Some later) = search rules in
    (Some later, put.0)
