use Rattle.std.proofs.lemmas.Result.{err_from_is_err_and}
use Rattle.sieve_syntax.proofs.FaultLemmas.{fault_on}
use Rattle.sieve_syntax.proofs.VacationLemmas.{given_some, given_none}
use Rattle.sieve_syntax.proofs.extension.vacation.arguments.given_from.Goals as goal

pub returns-in_err-reply_from-in-Some-clause-fault : goal.returns-in_err-reply_from-in-Some-clause-fault
returns-in_err-reply_from-in-Some-clause-fault c =
    let p = err_from_is_err_and c.from_residual.result c.from_residual.ensures.1 in
    rw (p.1, p.2) (fault_on _ _ _ (given_none _ _ c.in-Some.ensures) c.in_err-reply_from-in-Some.ensures.fault)

pub returns-in_ok-reply_from-in-Some-clause-found : goal.returns-in_ok-reply_from-in-Some-clause-found
returns-in_ok-reply_from-in-Some-clause-found c = given_some _ _ c.in-Some.ensures _ c.in_ok-reply_from-in-Some.ensures.found
