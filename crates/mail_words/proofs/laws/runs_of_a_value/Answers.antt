use Rattle.mail_words.proofs.RunLaws.{runs_found, runs_only}
use Rattle.mail_words.proofs.laws.runs_of_a_value.Goals as goal

pub returns-clause-found : goal.returns-clause-found
returns-clause-found c = runs_found

pub returns-clause-only : goal.returns-clause-only
returns-clause-only c = runs_only
