use Rattle.std.proofs.Common.{◌≡◌, Some, rules}
use Rattle.daemon_core.specs.MailRules.{lmtp_connection_at}
use Rattle.daemon_core.proofs.DeliveriesLemmas.{ready_made}
use Rattle.daemon_core.proofs.deliveries.request_at.Goals as goal

pub returns-in-Ok : goal.returns-in-Ok
returns-in-Ok c =
    let it = c.in_ok-connection.connection.now in
    let there : lmtp_connection_at c.args.mail.now c.args.id ≡ Some it = search rules in
    ready_made c.args.now (lmtp_connection_at c.args.mail.now) c.args.id it there c.in-Ok.request c.in-Ok.ensures
