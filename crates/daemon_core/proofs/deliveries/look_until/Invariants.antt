-- What was collected so far.
use Rattle.daemon_core.specs.Batches.{IsCollected}
use Rattle.daemon_core.specs.MailRules.{lmtp_connection_at}
use Rattle.daemon_core.proofs.deliveries.look_until.Given as goal

abbrev pub invariant-loop-id : goal.invariant-loop-id
invariant-loop-id l = (goal.iterator-loop-id).can_next l.id-iterator × (goal.iterator-loop-id).is_finite l.id-iterator × IsCollected l.now (lmtp_connection_at l.mail) l.batch
