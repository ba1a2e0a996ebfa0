use Rattle.sieve_syntax.proofs.LookingLemmas.{so_looking}
use Rattle.sieve_syntax.proofs.OutcomeLemmas.{flags_named}
use Rattle.sieve_syntax.specs.Trace.{OnDone, FilesWithFlags}
use Rattle.sieve_syntax.proofs.laws.flags_of_copies.Goals as goal

pub returns : goal.returns
returns c = λ asking truth tree only. so_looking (OnDone FilesWithFlags) asking truth tree only (flags_named truth tree)
