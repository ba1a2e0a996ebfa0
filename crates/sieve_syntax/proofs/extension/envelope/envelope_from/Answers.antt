use Rattle.std.proofs.lemmas.Result.{err_from_is_err_and}
use Rattle.sieve_syntax.proofs.FaultLemmas.{fault_on}
use Rattle.sieve_syntax.proofs.ExtensionLaws.Envelope.{envelope_no_parts}
use Rattle.sieve_syntax.proofs.extension.envelope.envelope_from.Goals as goal

pub returns-in_err-parts : goal.returns-in_err-parts
returns-in_err-parts c =
    let lists = c.in_ok-names.ensures.found in
    let e = rw c.as_slice.ensures at c.in_err-parts.ensures in
    let p = err_from_is_err_and c.from_residual-in_err-parts.result c.from_residual-in_err-parts.ensures.1 in
    rw (p.1, p.2) (fault_on _ _ _ (envelope_no_parts _ _ _ _ lists) e)
