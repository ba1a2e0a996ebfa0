use Rattle.dovecot_userdb.proofs.FitLemmas.{userdb_answers_fit as stand}
use Rattle.dovecot_userdb.proofs.laws.userdb_answers_fit.Goals as goal

pub returns : goal.returns
returns c = stand
