use Rattle.std.proofs.Common.{◌≡◌, None}
use Rattle.net_loop.specs.Room.{claim_in, best_from}
use Rattle.net_loop.proofs.accept.find_room.Given as goal

-- what the entries that are left make of the best so far is what all make of none
abbrev pub invariant-clients : goal.invariant-clients
invariant-clients g l =
    best_from (claim_in g.M.Machine.rules l.machine l.service.moment l.kind) l.best l.client-iterator
    ≡ best_from (claim_in g.M.Machine.rules l.machine l.service.moment l.kind) None l.service.clients.entries
