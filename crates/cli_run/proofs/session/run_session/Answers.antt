-- A session that ended has status 0, which is that of no fault; of one that broke off it is told why, after its fault.
use Rattle.std.proofs.Common.{Ok, Err, refl, arith}
use Rattle.cli_run.proofs.StatusLemmas.{status_some}
use Rattle.cli_run.proofs.session.run_session.Goals as goal

pub returns-in-Err-clause-reads : goal.returns-in-Err-clause-reads
returns-in-Err-clause-reads g c is = absurd (omega (arith, status_some c.in-Err.fault, c.refuse.ensures.status, is))

pub returns-in-Ok-clause-serves : goal.returns-in-Ok-clause-serves
returns-in-Ok-clause-serves g c tells idle =
    (Ok tt, g.E.Write.contents c.serve_client.new.errors, refl, tt, c.in-Ok.ensures.told, refl, c.in-Ok.ensures.serves tells idle)

pub returns-in-Err-clause-serves : goal.returns-in-Err-clause-serves
returns-in-Err-clause-serves g c tells idle =
    (Err c.in-Err.fault, g.E.Write.contents c.serve_client.new.errors, c.refuse.ensures.status, c.in-Err.ensures.fault, c.in-Err.ensures.told, c.refuse.ensures.line, c.in-Err.ensures.serves tells idle)
