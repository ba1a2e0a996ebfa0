use Rattle.sieve_syntax.proofs.VacationLemmas.{outbound_none, adds_none}
use Rattle.sieve_syntax.proofs.extension.vacation.arguments.add_named.Goals as goal

pub returns-in-None : goal.returns-in-None
returns-in-None c = adds_none _ _ (outbound_none _ _ c.in_ok-_display.ensures.only c.in-None.is)
