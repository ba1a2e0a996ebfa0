use Rattle.dovecot_userdb.proofs.AnswerLemmas.{userdb_answers_stand as stand}
use Rattle.dovecot_userdb.proofs.laws.userdb_answers_stand.Goals as goal

pub returns : goal.returns
returns c = stand
