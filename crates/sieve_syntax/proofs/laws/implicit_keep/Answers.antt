use Rattle.sieve_syntax.proofs.LookingLemmas.{so_looking}
use Rattle.sieve_syntax.proofs.OutcomeLemmas.{implicitly_kept}
use Rattle.sieve_syntax.specs.Trace.{OnDone, FilesIntoInboxAlone}
use Rattle.sieve_syntax.proofs.laws.implicit_keep.Goals as goal

pub returns : goal.returns
returns c = λ asking truth tree only all. so_looking (OnDone FilesIntoInboxAlone) asking truth tree only (implicitly_kept truth tree all)
