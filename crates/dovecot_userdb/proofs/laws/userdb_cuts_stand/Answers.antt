use Rattle.dovecot_userdb.proofs.CutLemmas.{userdb_cuts_stand as stand}
use Rattle.dovecot_userdb.proofs.laws.userdb_cuts_stand.Goals as goal

pub returns : goal.returns
returns c = stand
