use Rattle.std.proofs.lemmas.Result.{err_from_is_err_and}
use Rattle.sieve_syntax.specs.Capabilities.{granted_by}
use Rattle.sieve_syntax.specs.declared.tree.action.Action.TheVariants as D
use Rattle.sieve_syntax.specs.Table.{IsKeep}
use Rattle.sieve_syntax.specs.Valid.{MayAct}
use Rattle.sieve_syntax.proofs.FaultLemmas.{none_fits, one_unfit}
use Rattle.sieve_syntax.proofs.table.command.permitted_keep.Goals as goal

pub returns-in_err-given : goal.returns-in_err-given
returns-in_err-given c =
    let p = err_from_is_err_and c.from_residual.result c.from_residual.ensures.1 in
    rw (p.1, p.2) (none_fits (IsKeep c.args.args.now) (λ x. MayAct (granted_by c.args.granted.now) (D.Keep x)) _ c.in_err-given.ensures)

pub returns-in_err-require_if : goal.returns-in_err-require_if
returns-in_err-require_if c =
    let p = err_from_is_err_and c.from_residual-in_err-require_if.result c.from_residual-in_err-require_if.ensures.1 in
    let e = rw c.is_some.ensures at c.in_err-require_if.ensures.fault in
    rw (p.1, p.2) (one_unfit (IsKeep c.args.args.now) (λ x. MayAct (granted_by c.args.granted.now) (D.Keep x)) _ c.in_ok-given.ensures.1 _ e)
