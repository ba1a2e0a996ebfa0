use Rattle.daemon_log.proofs.ValueLemmas.{spelled_visible}
use Rattle.daemon_log.proofs.laws.visible_values.Goals as goal

pub returns : goal.returns
returns c = spelled_visible
