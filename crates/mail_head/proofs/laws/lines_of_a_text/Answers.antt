use Rattle.mail_head.proofs.CutLemmas.{lines_found, lines_only}
use Rattle.mail_head.proofs.laws.lines_of_a_text.Goals as goal

pub returns-clause-found : goal.returns-clause-found
returns-clause-found c = lines_found

pub returns-clause-only : goal.returns-clause-only
returns-clause-only c = lines_only
