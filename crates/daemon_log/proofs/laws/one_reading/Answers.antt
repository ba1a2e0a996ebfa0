use Rattle.daemon_log.proofs.LineLemmas as lines
use Rattle.daemon_log.proofs.laws.one_reading.Goals as goal

pub returns : goal.returns
returns c = lines.one_reading
