use Rattle.sieve_syntax.proofs.LookingLemmas.{so_looking}
use Rattle.sieve_syntax.proofs.OutcomeLemmas.{named_once}
use Rattle.sieve_syntax.specs.Trace.{OnDone, NamesWithoutRepeats}
use Rattle.sieve_syntax.proofs.laws.without_repeats.Goals as goal

pub returns : goal.returns
returns c = λ asking truth tree only. so_looking (OnDone NamesWithoutRepeats) asking truth tree only (named_once truth tree)
