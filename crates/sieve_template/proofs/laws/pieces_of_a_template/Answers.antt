use Rattle.sieve_template.proofs.TemplateLaws.{pieces_one}
use Rattle.sieve_template.proofs.TemplateExistence.{pieces_exist}
use Rattle.sieve_template.proofs.laws.pieces_of_a_template.Goals as goal

pub returns-clause-some : goal.returns-clause-some
returns-clause-some c = pieces_exist

pub returns-clause-one : goal.returns-clause-one
returns-clause-one c = pieces_one
