use Rattle.std.proofs.Common.{subst, sym}
use Rattle.daemon_core.specs.Batches.{AreMessagesReady}
use Rattle.daemon_core.specs.MailRules.{lmtp_connection_at}
use Rattle.daemon_core.proofs.deliveries.deliver_gathered.Goals as goal

pub deliver_batch-requires-clause-ready : goal.deliver_batch-requires-clause-ready
deliver_batch-requires-clause-ready g c = subst (AreMessagesReady c.args.now (lmtp_connection_at c.args.mail.now)) (sym c.as_slice-else-is_empty.ensures.value) c.in-Ok.ensures.ready
