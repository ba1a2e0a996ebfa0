use Rattle.std.proofs.Common.{◌≡◌}
use Rattle.daemon_core.proofs.BoundLemmas.{less_unread}
use Rattle.daemon_core.proofs.memory_room.less_unread.Given as goal

-- what the entries that are left make of what is left so far is what all make of the most
abbrev pub invariant-loop-id : goal.invariant-loop-id
invariant-loop-id l = less_unread l.clients.sessions l.left l.id-iterator ≡ less_unread l.clients.sessions l.most l.states.entries
