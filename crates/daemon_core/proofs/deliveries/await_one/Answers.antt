use Rattle.std.proofs.Common.{◌≡◌, Some, rules, subst}
use Rattle.std.specs.Ordering.{nat_cmp}
use Rattle.std.specs.BTreeMap as tree
use Rattle.daemon_core.specs.MailRules.{lmtp_connection_at}
use Rattle.daemon_core.specs.declared.mail.MailDaemon.{MailDaemon}
use Rattle.daemon_core.proofs.DeliveriesLemmas.{awaited, requested_at}
use Rattle.daemon_core.proofs.LmtpStepLemmas.{asks_delivery}
use Rattle.daemon_core.proofs.deliveries.await_one.Goals as goal

pub await_store-requires : goal.await_store-requires
await_store-requires c =
    let before = c.in-Some.connection.now in
    let was : lmtp_connection_at c.args.mail.now c.args.it.now.id ≡ Some before = search rules in
    asks_delivery c.args.now before c.args.it.now.request (requested_at c.args.now c.args.it.now c.args.mail.now c.requires before was)

pub returns-clause-awaits : goal.returns-clause-awaits
returns-clause-awaits c =
    let end : MailDaemon = record c.args.mail.now { lmtp_connections = c.get_mut.follows.lender c.await_store.new.self; gathered = record c.args.mail.now.gathered { ids = c.remove.new.self } } in
    let before = c.in-Some.connection.now in
    let later = c.await_store.new.self in
    let was : lmtp_connection_at c.args.mail.now c.args.it.now.id ≡ Some before = search rules in
    let put : tree.Updates nat_cmp c.args.mail.now.lmtp_connections (c.get_mut.follows.lender later) c.args.it.now.id (Some later) = search rules in
    awaited c.args.now c.args.it.now c.args.mail.now c.requires before was later end put.0 c.await_store.ensures.held c.await_store.ensures.does

pub returns-clause-one : goal.returns-clause-one
returns-clause-one c =
    let later = c.await_store.new.self in
    let put : tree.Updates nat_cmp c.args.mail.now.lmtp_connections (c.get_mut.follows.lender later) c.args.it.now.id (Some later) = search rules in
    (Some later, put.0)
