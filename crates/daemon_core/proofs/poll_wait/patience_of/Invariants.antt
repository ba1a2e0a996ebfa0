use Rattle.std.proofs.Common.{◌≡◌}
use Rattle.daemon_core.specs.DaemonRules.{least_patience, patience_of}
use Rattle.daemon_core.proofs.poll_wait.patience_of.Given as goal

-- what the entries that are left make of the least so far is what all make of the first
abbrev pub invariant-loop-state : goal.invariant-loop-state
invariant-loop-state l = least_patience l.span l.state-iterator ≡ patience_of l.daemon
