use Rattle.std.proofs.Common.{◌≡◌, true}
use Rattle.std.proofs.lemmas.Result.{err_from_is_err_and}
use Rattle.sieve_syntax.specs.Capabilities.{granted_by}
use Rattle.sieve_syntax.specs.Extension.Imap4flags.{IsHasFlagTest}
use Rattle.sieve_syntax.specs.Comparators.{MayMatch}
use Rattle.sieve_syntax.specs.Extension.Imap4flags.{MayAskHasFlag}
use Rattle.sieve_syntax.specs.declared.extension.imap4flags.HasFlag.{HasFlag}
use Rattle.sieve_syntax.proofs.FaultLemmas.{fault_on, none_fits, one_unfit}
use Rattle.sieve_syntax.specs.declared.capability.Capability.TheVariants as Q
use Rattle.sieve_syntax.proofs.extension.imap4flags.permitted_has_flag.Goals as goal

pub returns-in_err-require : goal.returns-in_err-require
returns-in_err-require c =
    let p = err_from_is_err_and c.from_residual.result c.from_residual.ensures.1 in
    rw (p.1, p.2) (fault_on _ ((granted_by c.args.granted.now) Q.Imap4flags ≡ true → ⊥) ((x : HasFlag) → IsHasFlagTest c.args.args.now x → MayAskHasFlag (granted_by c.args.granted.now) x → ⊥) (λ bad x is fit. bad fit.0) c.in_err-require.ensures.fault)

pub returns-in_err-flag : goal.returns-in_err-flag
returns-in_err-flag c =
    let p = err_from_is_err_and c.from_residual-in_err-flag.result c.from_residual-in_err-flag.ensures.1 in
    rw (p.1, p.2) (none_fits (IsHasFlagTest c.args.args.now) (MayAskHasFlag (granted_by c.args.granted.now)) _ c.in_err-flag.ensures)

pub returns-in_err-require_match : goal.returns-in_err-require_match
returns-in_err-require_match c =
    let p = err_from_is_err_and c.from_residual-in_err-require_match.result c.from_residual-in_err-require_match.ensures.1 in
    let flag = c.in_ok-flag.flag in
    rw (p.1, p.2) (one_unfit (IsHasFlagTest c.args.args.now) (MayAskHasFlag (granted_by c.args.granted.now)) _ c.in_ok-flag.ensures.1 _ (fault_on _ (MayMatch (granted_by c.args.granted.now) flag.comparator flag.matching → ⊥) (MayAskHasFlag (granted_by c.args.granted.now) flag → ⊥) (λ bad fit. bad fit.1) c.in_err-require_match.ensures.fault))
