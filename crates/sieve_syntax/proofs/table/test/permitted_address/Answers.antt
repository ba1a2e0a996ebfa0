use Rattle.std.proofs.lemmas.Result.{err_from_is_err_and}
use Rattle.sieve_syntax.specs.Capabilities.{granted_by}
use Rattle.sieve_syntax.specs.declared.tree.checks.MailCheck.TheVariants as C
use Rattle.sieve_syntax.specs.Table.{IsAddressTest}
use Rattle.sieve_syntax.specs.Extension.Subaddress.{MayNamePart}
use Rattle.sieve_syntax.specs.Comparators.{MayMatch}
use Rattle.sieve_syntax.specs.Valid.{MayCheck}
use Rattle.sieve_syntax.proofs.FaultLemmas.{fault_on, none_fits, one_unfit}
use Rattle.sieve_syntax.proofs.table.test.permitted_address.Goals as goal

pub returns-in_err-address : goal.returns-in_err-address
returns-in_err-address c =
    let p = err_from_is_err_and c.from_residual.result c.from_residual.ensures.1 in
    rw (p.1, p.2) (none_fits (IsAddressTest c.args.args.now) (λ x. MayCheck (granted_by c.args.granted.now) (C.Address x)) _ c.in_err-address.ensures)

pub returns-in_err-require_part : goal.returns-in_err-require_part
returns-in_err-require_part c =
    let p = err_from_is_err_and c.from_residual-in_err-require_part.result c.from_residual-in_err-require_part.ensures.1 in
    rw (p.1, p.2) (one_unfit (IsAddressTest c.args.args.now) (λ x. MayCheck (granted_by c.args.granted.now) (C.Address x)) _ c.in_ok-address.ensures.1 _ (fault_on _ (MayNamePart (granted_by c.args.granted.now) c.in_ok-address.address.part → ⊥) (MayCheck (granted_by c.args.granted.now) (C.Address c.in_ok-address.address) → ⊥) (λ bad fit. bad fit.0) c.in_err-require_part.ensures.fault))

pub returns-in_err-require_match : goal.returns-in_err-require_match
returns-in_err-require_match c =
    let p = err_from_is_err_and c.from_residual-in_err-require_match.result c.from_residual-in_err-require_match.ensures.1 in
    let address = c.in_ok-address.address in
    rw (p.1, p.2) (one_unfit (IsAddressTest c.args.args.now) (λ x. MayCheck (granted_by c.args.granted.now) (C.Address x)) _ c.in_ok-address.ensures.1 _ (fault_on _ (MayMatch (granted_by c.args.granted.now) address.comparator address.matching → ⊥) (MayCheck (granted_by c.args.granted.now) (C.Address address) → ⊥) (λ bad fit. bad fit.1) c.in_err-require_match.ensures.fault))
