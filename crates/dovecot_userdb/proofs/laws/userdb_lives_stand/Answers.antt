use Rattle.dovecot_userdb.proofs.LifeLemmas.{userdb_lives_stand as stand}
use Rattle.dovecot_userdb.proofs.laws.userdb_lives_stand.Goals as goal

pub returns : goal.returns
returns c = stand
