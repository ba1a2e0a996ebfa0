use Rattle.std.proofs.Common.{◌≡◌}
use Rattle.daemon_core.specs.MailRules.{least_lmtp_patience, patience_for}
use Rattle.daemon_core.proofs.poll_wait.patience_for.Given as goal

-- what the entries that are left make of the least so far is what all make of the first
abbrev pub invariant-loop-connection : goal.invariant-loop-connection
invariant-loop-connection l = least_lmtp_patience l.span l.connection-iterator ≡ patience_for l.daemon
