use Rattle.dovecot_userdb.proofs.RequestLemmas.{requests_stand as stand}
use Rattle.dovecot_userdb.proofs.laws.requests_stand.Goals as goal

pub returns : goal.returns
returns c = stand
