use Rattle.std.proofs.Common.{◌≡◌, true, is_some}
use Rattle.std.proofs.lemmas.Result.{err_from_is_err_and}
use Rattle.sieve_syntax.specs.Capabilities.{granted_by, Permits}
use Rattle.sieve_syntax.specs.declared.extension.vacation.VacationArgs.{VacationArgs}
use Rattle.sieve_syntax.specs.Extension.Vacation.Reasons.{IsReason}
use Rattle.sieve_syntax.specs.Extension.Vacation.{IsVacation, MayReply}
use Rattle.sieve_syntax.specs.Extension.VacationSeconds.{may_use_vacation}
use Rattle.sieve_syntax.proofs.FaultLemmas.{fault_on, none_fits, one_unfit}
use Rattle.sieve_syntax.specs.declared.capability.Capability.TheVariants as Q
use Rattle.sieve_syntax.proofs.extension.vacation.permitted_vacation.Goals as goal

pub returns-in_err-require_some : goal.returns-in_err-require_some
returns-in_err-require_some c =
    let p = err_from_is_err_and c.from_residual.result c.from_residual.ensures.1 in
    let e = c.in_err-require_some.ensures.fault in
    rw (p.1, p.2) (fault_on _ (may_use_vacation (granted_by c.args.granted.now) ≡ true → ⊥) ((x : VacationArgs) → IsVacation c.args.args.now x → MayReply (granted_by c.args.granted.now) x → ⊥) (λ bad x is fit. bad fit.0) e)

pub returns-in_err-vacation : goal.returns-in_err-vacation
returns-in_err-vacation c =
    let p = err_from_is_err_and c.from_residual-in_err-vacation.result c.from_residual-in_err-vacation.ensures.1 in
    rw (p.1, p.2) (none_fits (IsVacation c.args.args.now) (MayReply (granted_by c.args.granted.now)) _ c.in_err-vacation.ensures)

pub returns-in_err-require_if : goal.returns-in_err-require_if
returns-in_err-require_if c =
    let p = err_from_is_err_and c.from_residual-in_err-require_if.result c.from_residual-in_err-require_if.ensures.1 in
    let e = rw c.is_some.ensures at c.in_err-require_if.ensures.fault in
    rw (p.1, p.2) (one_unfit (IsVacation c.args.args.now) (MayReply (granted_by c.args.granted.now)) _ c.in_ok-vacation.ensures.1 _ (fault_on _ (Permits ((granted_by c.args.granted.now) Q.VacationSeconds) (is_some c.in_ok-vacation.vacation.seconds) → ⊥) (MayReply (granted_by c.args.granted.now) c.in_ok-vacation.vacation → ⊥) (λ bad fit. bad fit.1) e))

pub returns-in_err-check_reason : goal.returns-in_err-check_reason
returns-in_err-check_reason c =
    let p = err_from_is_err_and c.from_residual-in_err-check_reason.result c.from_residual-in_err-check_reason.ensures.1 in
    rw (p.1, p.2) (one_unfit (IsVacation c.args.args.now) (MayReply (granted_by c.args.granted.now)) _ c.in_ok-vacation.ensures.1 _ (fault_on _ (IsReason c.in_ok-vacation.vacation → ⊥) (MayReply (granted_by c.args.granted.now) c.in_ok-vacation.vacation → ⊥) (λ bad fit. bad fit.2) c.in_err-check_reason.ensures.fault))

pub returns : goal.returns
returns c =
    let granted = c.in_ok-require_some.ensures.granted in
    let seconds = rw c.is_some.ensures at c.in_ok-require_if.ensures.granted in
    rw c.in_ok-new.ensures (c.in_ok-vacation.ensures.0, (granted, seconds, c.in_ok-check_reason.ensures.found), c.in_ok-vacation.ensures.1)
