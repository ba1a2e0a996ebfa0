use Rattle.sieve_syntax.proofs.VacationLemmas.{outbound_none}
use Rattle.sieve_syntax.proofs.table.redirect.outbound.Goals as goal

pub returns-in-None-clause-fault : goal.returns-in-None-clause-fault
returns-in-None-clause-fault c = outbound_none _ _ c.in_ok-found.ensures.only c.in-None.is
