use Rattle.std.proofs.lemmas.Result.{err_from_is_err_and}
use Rattle.sieve_syntax.proofs.FaultLemmas.{fault_on}
use Rattle.sieve_syntax.proofs.VacationLemmas.{reply_none}
use Rattle.sieve_syntax.proofs.extension.vacation.arguments.reply_from.Goals as goal

pub returns-in_err-display-clause-fault : goal.returns-in_err-display-clause-fault
returns-in_err-display-clause-fault c =
    let e = rw c.as_slice.ensures at c.in_err-display.ensures.fault in
    let p = err_from_is_err_and c.from_residual.result c.from_residual.ensures.1 in
    rw (p.1, p.2) (fault_on _ _ _ (reply_none _) e)
