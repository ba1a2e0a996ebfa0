-- No fault has the status of a script that was tried.
use Rattle.std.proofs.Common.{arith}
use Rattle.cli_run.proofs.StatusLemmas.{status_some}
use Rattle.cli_run.proofs.try_script.try_run.Goals as goal

pub returns-clause-reads : goal.returns-clause-reads
returns-clause-reads g c is = absurd (omega (arith, status_some c.in-Err.fault, c.refuse.ensures.status, is))
