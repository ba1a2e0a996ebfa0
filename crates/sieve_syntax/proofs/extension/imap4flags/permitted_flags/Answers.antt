use Rattle.std.proofs.Common.{◌≡◌, ℕ, List, true}
use Rattle.std.proofs.lemmas.Result.{err_from_is_err_and}
use Rattle.sieve_syntax.specs.Capabilities.{granted_by}
use Rattle.sieve_syntax.specs.Extension.Imap4flags.{IsFlagList, MaySetFlags}
use Rattle.sieve_syntax.proofs.FaultLemmas.{fault_on, none_fits}
use Rattle.sieve_syntax.specs.declared.capability.Capability.TheVariants as Q
use Rattle.sieve_syntax.proofs.extension.imap4flags.permitted_flags.Goals as goal

pub returns-in_err-require : goal.returns-in_err-require
returns-in_err-require c =
    let p = err_from_is_err_and c.from_residual.result c.from_residual.ensures.1 in
    rw (p.1, p.2) (fault_on _ ((granted_by c.args.granted.now) Q.Imap4flags ≡ true → ⊥) ((x : List (List ℕ)) → IsFlagList c.args.args.now x → MaySetFlags (granted_by c.args.granted.now) → ⊥) (λ bad x is fit. bad fit) c.in_err-require.ensures.fault)

pub returns-in_err-texts : goal.returns-in_err-texts
returns-in_err-texts c =
    let p = err_from_is_err_and c.from_residual-in_err-texts.result c.from_residual-in_err-texts.ensures.1 in
    rw (p.1, p.2) (none_fits (IsFlagList c.args.args.now) (λ x. MaySetFlags (granted_by c.args.granted.now)) _ c.in_err-texts.ensures)
