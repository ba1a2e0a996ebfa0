use Rattle.smtp_connections.proofs.TurnLemmas.{turns_stand as stand}
use Rattle.smtp_connections.proofs.laws.turns_stand.Goals as goal

pub returns : goal.returns
returns c = stand
