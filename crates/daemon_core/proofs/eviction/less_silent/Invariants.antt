use Rattle.std.proofs.Common.{◌≡◌}
use Rattle.daemon_core.proofs.RoomLemmas.{less_silent}
use Rattle.daemon_core.proofs.eviction.less_silent.Given as goal

-- what the entries that are left make of what is left so far is what all make of the most
abbrev pub invariant-loop-connection : goal.invariant-loop-connection
invariant-loop-connection l = less_silent l.left l.connection-iterator ≡ less_silent l.most l.lmtp_connections.entries
