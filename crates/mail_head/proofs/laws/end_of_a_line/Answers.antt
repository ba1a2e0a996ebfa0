use Rattle.mail_head.proofs.EndLaws.{end_found, end_only}
use Rattle.mail_head.proofs.laws.end_of_a_line.Goals as goal

pub returns-clause-found : goal.returns-clause-found
returns-clause-found c = end_found

pub returns-clause-only : goal.returns-clause-only
returns-clause-only c = end_only
