use Rattle.std.proofs.lemmas.Result.{err_from_is_err_and}
use Rattle.sieve_syntax.specs.Capabilities.{granted_by}
use Rattle.sieve_syntax.specs.declared.extension.ExtensionTest.TheVariants as X
use Rattle.sieve_syntax.specs.Extension.{MayAsk}
use Rattle.sieve_syntax.specs.Extension.Date.{IsCurrentDateTest}
use Rattle.sieve_syntax.proofs.TableLemmas.{row_fits, fit_fault}
use Rattle.sieve_syntax.proofs.extension.date.current_date_test.Goals as goal

pub returns-in_err-current : goal.returns-in_err-current
returns-in_err-current c =
    let p = err_from_is_err_and c.from_residual.result c.from_residual.ensures.1 in
    rw (p.1, p.2) (fit_fault IsCurrentDateTest X.CurrentDate _ (MayAsk (granted_by c.args.granted.now)) (λ x. MayAsk (granted_by c.args.granted.now) (X.CurrentDate x)) (λ x may. may) _ c.in_err-current.ensures)

pub returns : goal.returns
returns c = row_fits IsCurrentDateTest X.CurrentDate _ (MayAsk (granted_by c.args.granted.now)) _ c.in_ok-current.ensures
