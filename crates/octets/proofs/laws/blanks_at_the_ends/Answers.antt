use Rattle.octets.proofs.TrimLaws.{trim_found, trim_only}
use Rattle.octets.proofs.laws.blanks_at_the_ends.Goals as goal

pub returns-clause-found : goal.returns-clause-found
returns-clause-found c = trim_found

pub returns-clause-only : goal.returns-clause-only
returns-clause-only c = trim_only
