use Rattle.std.proofs.lemmas.Result.{err_from_is_err_and}
use Rattle.sieve_syntax.proofs.FaultLemmas.{fault_on}
use Rattle.sieve_syntax.proofs.TableLemmas.{finds_one, keep_same, keep_extra}
use Rattle.sieve_syntax.proofs.table.keep.keep_from.Goals as goal

pub returns-in_err-no_arguments : goal.returns-in_err-no_arguments
returns-in_err-no_arguments c =
    let p = err_from_is_err_and c.from_residual.result c.from_residual.ensures.1 in
    rw (p.1, p.2) (fault_on _ _ _ (keep_extra _ _) c.in_err-no_arguments.ensures.fault)

pub returns : goal.returns
returns c = finds_one _ (keep_same _ _) _ (record { none = c.in_ok-no_arguments.ensures.found; flags = c.in_ok-given.ensures })
