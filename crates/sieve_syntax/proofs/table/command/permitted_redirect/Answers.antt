use Rattle.std.proofs.lemmas.Result.{err_from_is_err_and}
use Rattle.sieve_syntax.specs.Capabilities.{granted_by}
use Rattle.sieve_syntax.specs.declared.tree.action.Action.TheVariants as D
use Rattle.sieve_syntax.specs.Table.{IsRedirect}
use Rattle.sieve_syntax.specs.Valid.{MayAct}
use Rattle.sieve_syntax.proofs.FaultLemmas.{none_fits, one_unfit}
use Rattle.sieve_syntax.proofs.table.command.permitted_redirect.Goals as goal

pub returns-in_err-redirect : goal.returns-in_err-redirect
returns-in_err-redirect c =
    let p = err_from_is_err_and c.from_residual.result c.from_residual.ensures.1 in
    rw (p.1, p.2) (none_fits (IsRedirect c.args.args.now) (λ x. MayAct (granted_by c.args.granted.now) (D.Redirect x)) _ c.in_err-redirect.ensures)

pub returns-in_err-require_if : goal.returns-in_err-require_if
returns-in_err-require_if c =
    let p = err_from_is_err_and c.from_residual-in_err-require_if.result c.from_residual-in_err-require_if.ensures.1 in
    rw (p.1, p.2) (one_unfit (IsRedirect c.args.args.now) (λ x. MayAct (granted_by c.args.granted.now) (D.Redirect x)) _ c.in_ok-redirect.ensures.1 _ c.in_err-require_if.ensures.fault)
