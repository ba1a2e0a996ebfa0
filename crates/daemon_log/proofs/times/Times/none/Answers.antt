use Rattle.std.proofs.Common.{◌≡◌, refl}
use Rattle.daemon_log.proofs.TimeLemmas.{all_none}
use Rattle.daemon_log.proofs.times.Times.none.Goals as goal

pub returns : goal.returns
returns c = record { counts = all_none 32; total = refl }
