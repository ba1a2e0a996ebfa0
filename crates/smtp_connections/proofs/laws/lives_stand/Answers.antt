use Rattle.smtp_connections.proofs.HeardLemmas.{lives_stand as stand}
use Rattle.smtp_connections.proofs.laws.lives_stand.Goals as goal

pub returns : goal.returns
returns c = stand
