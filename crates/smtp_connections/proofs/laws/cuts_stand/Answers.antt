use Rattle.smtp_connections.proofs.CutLemmas.{cuts_stand as stand}
use Rattle.smtp_connections.proofs.laws.cuts_stand.Goals as goal

pub returns : goal.returns
returns c = stand
