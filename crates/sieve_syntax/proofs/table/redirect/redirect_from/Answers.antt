use Rattle.std.proofs.lemmas.Result.{err_from_is_err_and}
use Rattle.sieve_syntax.proofs.FaultLemmas.{fault_on}
use Rattle.sieve_syntax.proofs.TableLemmas.{finds_one}
use Rattle.sieve_syntax.proofs.VacationLemmas.{redirect_same, redirect_no_text, redirect_no_address}
use Rattle.sieve_syntax.proofs.table.redirect.redirect_from.Goals as goal

pub returns-in_err-text : goal.returns-in_err-text
returns-in_err-text c =
    let p = err_from_is_err_and c.from_residual.result c.from_residual.ensures.1 in
    rw (p.1, p.2) (fault_on _ _ _ (redirect_no_text _ _) c.in_err-text.ensures.fault)

pub returns-in_err-_display : goal.returns-in_err-_display
returns-in_err-_display c =
    let e = rw c.as_slice.ensures at c.in_err-_display.ensures.fault in
    let p = err_from_is_err_and c.from_residual-in_err-_display.result c.from_residual-in_err-_display.ensures.1 in
    rw (p.1, p.2) (fault_on _ _ _ (redirect_no_address _ _ _ c.in_ok-text.ensures.found) e)

pub returns : goal.returns
returns c =
    let found = rw c.as_slice.ensures at c.in_ok-_display.ensures.found in
    finds_one _ (redirect_same _ _) _ (record { text = _; is_text = c.in_ok-text.ensures.found; names = (_, found); copy = c.given_copy.ensures })
