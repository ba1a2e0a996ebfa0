use Rattle.std.proofs.lemmas.Result.{err_from_is_err_and}
use Rattle.sieve_syntax.specs.Capabilities.{granted_by}
use Rattle.sieve_syntax.specs.declared.tree.checks.MailCheck.TheVariants as C
use Rattle.sieve_syntax.specs.Table.{IsHeaderTest}
use Rattle.sieve_syntax.specs.Valid.{MayCheck}
use Rattle.sieve_syntax.proofs.FaultLemmas.{none_fits, one_unfit}
use Rattle.sieve_syntax.proofs.table.test.permitted_header.Goals as goal

pub returns-in_err-header : goal.returns-in_err-header
returns-in_err-header c =
    let p = err_from_is_err_and c.from_residual.result c.from_residual.ensures.1 in
    rw (p.1, p.2) (none_fits (IsHeaderTest c.args.args.now) (λ x. MayCheck (granted_by c.args.granted.now) (C.Header x)) _ c.in_err-header.ensures)

pub returns-in_err-require_match : goal.returns-in_err-require_match
returns-in_err-require_match c =
    let p = err_from_is_err_and c.from_residual-in_err-require_match.result c.from_residual-in_err-require_match.ensures.1 in
    rw (p.1, p.2) (one_unfit (IsHeaderTest c.args.args.now) (λ x. MayCheck (granted_by c.args.granted.now) (C.Header x)) _ c.in_ok-header.ensures.1 _ c.in_err-require_match.ensures.fault)
