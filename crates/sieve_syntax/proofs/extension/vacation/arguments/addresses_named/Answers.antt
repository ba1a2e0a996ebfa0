use Rattle.sieve_syntax.proofs.VacationLemmas.{named_step}
use Rattle.sieve_syntax.proofs.extension.vacation.arguments.addresses_named.Goals as goal

pub loop-text-preserved : goal.loop-text-preserved
loop-text-preserved c =
    let adds = rw c.as_slice.ensures at c.in_ok-add_named.ensures in
    named_step _ _ c.text-item.result _ _ c.loop-text-test.true c.text-item.is c.loop-text.invariant adds
