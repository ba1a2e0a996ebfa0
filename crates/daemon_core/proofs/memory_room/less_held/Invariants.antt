use Rattle.std.proofs.Common.{◌≡◌}
use Rattle.daemon_core.proofs.BoundLemmas.{less_held}
use Rattle.daemon_core.proofs.memory_room.less_held.Given as goal

-- what the entries that are left make of what is left so far is what all make of the most
abbrev pub invariant-loop-connection : goal.invariant-loop-connection
invariant-loop-connection l = less_held l.left l.connection-iterator ≡ less_held l.most l.lmtp_connections.entries
