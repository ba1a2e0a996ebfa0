use Rattle.std.proofs.Common.{◌≡◌, true}
use Rattle.std.specs.Prelude.{is_some}
use Rattle.std.proofs.lemmas.Result.{err_from_is_err_and}
use Rattle.sieve_lex.specs.declared.fault.FaultKind.TheVariants.{BadMailbox}
use Rattle.sieve_syntax.specs.Capabilities.{granted_by, Permits}
use Rattle.sieve_syntax.specs.declared.error.ParseError.TheVariants.{Fault}
use Rattle.sieve_syntax.specs.declared.extension.fileinto.FileInto.{FileInto}
use Rattle.sieve_syntax.specs.Extension.FileInto.{IsFileInto, MayFileInto}
use Rattle.sieve_syntax.proofs.FaultLemmas.{fault_on, none_fits, one_unfit}
use Rattle.sieve_syntax.specs.declared.capability.Capability.TheVariants as Q
use Rattle.sieve_syntax.proofs.extension.fileinto.permitted_filing.Goals as goal

pub returns-in_err-require : goal.returns-in_err-require
returns-in_err-require c =
    let p = err_from_is_err_and c.from_residual.result c.from_residual.ensures.1 in
    rw (p.1, p.2) (fault_on _ ((granted_by c.args.granted.now) Q.FileInto ≡ true → ⊥) ((x : FileInto) → IsFileInto c.args.args.now x → MayFileInto (granted_by c.args.granted.now) x → ⊥) (λ bad x is fit. bad fit.0) c.in_err-require.ensures.fault)

pub returns-in_err-filing : goal.returns-in_err-filing
returns-in_err-filing c =
    let p = err_from_is_err_and c.from_residual-in_err-filing.result c.from_residual-in_err-filing.ensures.1 in
    rw (p.1, p.2) (none_fits (IsFileInto c.args.args.now) (MayFileInto (granted_by c.args.granted.now)) _ c.in_err-filing.ensures)

pub returns-in_err-require_if : goal.returns-in_err-require_if
returns-in_err-require_if c =
    let p = err_from_is_err_and c.from_residual-in_err-require_if.result c.from_residual-in_err-require_if.ensures.1 in
    rw (p.1, p.2) (one_unfit (IsFileInto c.args.args.now) (MayFileInto (granted_by c.args.granted.now)) _ c.in_ok-filing.ensures.1 _ (fault_on _ (Permits ((granted_by c.args.granted.now) Q.Copy) c.in_ok-filing.filing.copy → ⊥) (MayFileInto (granted_by c.args.granted.now) c.in_ok-filing.filing → ⊥) (λ bad fit. bad fit.1) c.in_err-require_if.ensures.fault))

pub returns-in_err-require_if-2 : goal.returns-in_err-require_if-2
returns-in_err-require_if-2 c =
    let p = err_from_is_err_and c.from_residual-in_err-require_if-2.result c.from_residual-in_err-require_if-2.ensures.1 in
    rw (p.1, p.2) (one_unfit (IsFileInto c.args.args.now) (MayFileInto (granted_by c.args.granted.now)) _ c.in_ok-filing.ensures.1 _ (fault_on _ (Permits ((granted_by c.args.granted.now) Q.Mailbox) c.in_ok-filing.filing.create → ⊥) (MayFileInto (granted_by c.args.granted.now) c.in_ok-filing.filing → ⊥) (λ bad fit. bad fit.2) c.in_err-require_if-2.ensures.fault))

pub returns-in_err-require_if-3 : goal.returns-in_err-require_if-3
returns-in_err-require_if-3 c =
    let p = err_from_is_err_and c.from_residual-in_err-require_if-3.result c.from_residual-in_err-require_if-3.ensures.1 in
    let e = rw c.is_some.ensures at c.in_err-require_if-3.ensures.fault in
    rw (p.1, p.2) (one_unfit (IsFileInto c.args.args.now) (MayFileInto (granted_by c.args.granted.now)) _ c.in_ok-filing.ensures.1 _ (fault_on _ (Permits ((granted_by c.args.granted.now) Q.Imap4flags) (is_some c.in_ok-filing.filing.flags) → ⊥) (MayFileInto (granted_by c.args.granted.now) c.in_ok-filing.filing → ⊥) (λ bad fit. bad fit.3) e))

pub returns-then-not-is_mailbox : goal.returns-then-not-is_mailbox
returns-then-not-is_mailbox c =
    let bad = rw c.as_slice.ensures at c.if-not-is_mailbox.ensures in
    one_unfit (IsFileInto c.args.args.now) (MayFileInto (granted_by c.args.granted.now)) _ c.in_ok-filing.ensures.1 (Fault BadMailbox) (λ fit. let no = bad.1 fit.4 in cc)
