use Rattle.std.proofs.lemmas.Result.{err_from_is_err_and}
use Rattle.sieve_syntax.specs.Capabilities.{granted_by}
use Rattle.sieve_syntax.specs.declared.extension.ExtensionTest.TheVariants as X
use Rattle.sieve_syntax.specs.Extension.{MayAsk}
use Rattle.sieve_syntax.specs.Extension.Imap4flags.{IsHasFlagTest}
use Rattle.sieve_syntax.proofs.TableLemmas.{row_fits, fit_fault}
use Rattle.sieve_syntax.proofs.extension.imap4flags.has_flag_test.Goals as goal

pub returns-in_err-flag : goal.returns-in_err-flag
returns-in_err-flag c =
    let p = err_from_is_err_and c.from_residual.result c.from_residual.ensures.1 in
    rw (p.1, p.2) (fit_fault IsHasFlagTest X.HasFlag _ (MayAsk (granted_by c.args.granted.now)) (λ x. MayAsk (granted_by c.args.granted.now) (X.HasFlag x)) (λ x may. may) _ c.in_err-flag.ensures)

pub returns : goal.returns
returns c = row_fits IsHasFlagTest X.HasFlag _ (MayAsk (granted_by c.args.granted.now)) _ c.in_ok-flag.ensures
