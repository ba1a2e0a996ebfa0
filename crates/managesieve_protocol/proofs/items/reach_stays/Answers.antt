use Rattle.managesieve_protocol.proofs.Scans as scans
use Rattle.managesieve_protocol.proofs.items.reach_stays.Goals as goal

pub returns : goal.returns
returns c = scans.stays
