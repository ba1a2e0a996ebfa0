use Rattle.net_loop.proofs.RoomLemmas as room
use Rattle.net_loop.proofs.laws.first_goes.Goals as goal

pub returns : goal.returns
returns g c = room.first_goes g.M.Machine.rules
