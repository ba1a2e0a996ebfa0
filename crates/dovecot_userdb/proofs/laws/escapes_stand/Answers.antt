use Rattle.dovecot_userdb.proofs.RequestLemmas.{escapes_stand as stand}
use Rattle.dovecot_userdb.proofs.laws.escapes_stand.Goals as goal

pub returns : goal.returns
returns c = stand
