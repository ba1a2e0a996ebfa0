use Rattle.smtp_connections.proofs.AnswerLemmas.{smtp_answers_stand as stand}
use Rattle.smtp_connections.proofs.laws.smtp_answers_stand.Goals as goal

pub returns : goal.returns
returns c = stand
