use Rattle.dovecot_userdb.proofs.ProbeLemmas.{probes_stand as stand}
use Rattle.dovecot_userdb.proofs.laws.probes_stand.Goals as goal

pub returns : goal.returns
returns c = stand
