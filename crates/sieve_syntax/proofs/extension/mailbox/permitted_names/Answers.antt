use Rattle.std.proofs.Common.{◌≡◌, true, ℕ, List, true}
use Rattle.std.proofs.lemmas.Result.{err_from_is_err_and}
use Rattle.sieve_syntax.specs.Capabilities.{granted_by}
use Rattle.sieve_syntax.specs.Extension.Mailbox.{IsMailboxesTest, MayAskMailboxes}
use Rattle.sieve_syntax.proofs.FaultLemmas.{fault_on, none_fits}
use Rattle.sieve_syntax.specs.declared.capability.Capability.TheVariants as Q
use Rattle.sieve_syntax.proofs.extension.mailbox.permitted_names.Goals as goal

pub returns-in_err-require : goal.returns-in_err-require
returns-in_err-require c =
    let p = err_from_is_err_and c.from_residual.result c.from_residual.ensures.1 in
    rw (p.1, p.2) (fault_on _ ((granted_by c.args.granted.now) Q.Mailbox ≡ true → ⊥) ((x : List (List ℕ)) → IsMailboxesTest c.args.args.now x → MayAskMailboxes (granted_by c.args.granted.now) → ⊥) (λ bad x is fit. bad fit) c.in_err-require.ensures.fault)

pub returns-in_err-names : goal.returns-in_err-names
returns-in_err-names c =
    let p = err_from_is_err_and c.from_residual-in_err-names.result c.from_residual-in_err-names.ensures.1 in
    rw (p.1, p.2) (none_fits (IsMailboxesTest c.args.args.now) (λ x. MayAskMailboxes (granted_by c.args.granted.now)) _ c.in_err-names.ensures)
