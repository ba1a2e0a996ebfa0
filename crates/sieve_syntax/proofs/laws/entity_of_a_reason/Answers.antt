use Rattle.sieve_syntax.proofs.EntityLemmas.{entity_decides}
use Rattle.sieve_syntax.proofs.laws.entity_of_a_reason.Goals as goal

pub returns : goal.returns
returns c = entity_decides
