use Rattle.std.proofs.Common.{◌≡◌, true}
use Rattle.std.proofs.lemmas.Result.{err_from_is_err_and}
use Rattle.sieve_syntax.specs.Capabilities.{granted_by}
use Rattle.sieve_syntax.specs.Extension.Date.{IsDateTest}
use Rattle.sieve_syntax.specs.Comparators.{MayMatch}
use Rattle.sieve_syntax.specs.Extension.Date.{MayAskDate}
use Rattle.sieve_syntax.specs.declared.extension.date.DateTest.{DateTest}
use Rattle.sieve_syntax.proofs.FaultLemmas.{fault_on, none_fits, one_unfit}
use Rattle.sieve_syntax.specs.declared.capability.Capability.TheVariants as Q
use Rattle.sieve_syntax.proofs.extension.date.permitted_date.Goals as goal

pub returns-in_err-require : goal.returns-in_err-require
returns-in_err-require c =
    let p = err_from_is_err_and c.from_residual.result c.from_residual.ensures.1 in
    rw (p.1, p.2) (fault_on _ ((granted_by c.args.granted.now) Q.Date ≡ true → ⊥) ((x : DateTest) → IsDateTest c.args.args.now x → MayAskDate (granted_by c.args.granted.now) x → ⊥) (λ bad x is fit. bad fit.0) c.in_err-require.ensures.fault)

pub returns-in_err-date : goal.returns-in_err-date
returns-in_err-date c =
    let p = err_from_is_err_and c.from_residual-in_err-date.result c.from_residual-in_err-date.ensures.1 in
    rw (p.1, p.2) (none_fits (IsDateTest c.args.args.now) (MayAskDate (granted_by c.args.granted.now)) _ c.in_err-date.ensures)

pub returns-in_err-require_match : goal.returns-in_err-require_match
returns-in_err-require_match c =
    let p = err_from_is_err_and c.from_residual-in_err-require_match.result c.from_residual-in_err-require_match.ensures.1 in
    let date = c.in_ok-date.date in
    rw (p.1, p.2) (one_unfit (IsDateTest c.args.args.now) (MayAskDate (granted_by c.args.granted.now)) _ c.in_ok-date.ensures.1 _ (fault_on _ (MayMatch (granted_by c.args.granted.now) date.comparator date.matching → ⊥) (MayAskDate (granted_by c.args.granted.now) date → ⊥) (λ bad fit. bad fit.1) c.in_err-require_match.ensures.fault))
