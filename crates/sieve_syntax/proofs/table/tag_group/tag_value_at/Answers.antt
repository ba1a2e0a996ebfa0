use Rattle.std.proofs.lemmas.Result.{err_from_is_err_and}
use Rattle.sieve_syntax.proofs.FaultLemmas.{fault_on}
use Rattle.sieve_syntax.proofs.TagLemmas.{zone_nowhere}
use Rattle.sieve_syntax.proofs.table.tag_group.tag_value_at.Goals as goal

pub returns-in_err-zone-in-Zone-clause-fault : goal.returns-in_err-zone-in-Zone-clause-fault
returns-in_err-zone-in-Zone-clause-fault c =
    let p = err_from_is_err_and c.from_residual.result c.from_residual.ensures.1 in
    rw (p.1, p.2, c.in-Zone.is) (fault_on _ _ _ (zone_nowhere _) c.in_err-zone-in-Zone.ensures.fault)
