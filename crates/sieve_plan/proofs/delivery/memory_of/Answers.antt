use Rattle.std.proofs.Common.{ap, ◌∙◌}
use Rattle.sieve_plan.specs.Sent.{half_of}
use Rattle.sieve_plan.proofs.PlanLemmas.{memory_made}
use Rattle.sieve_plan.proofs.delivery.memory_of.Goals as goal

pub returns : goal.returns
returns c =
    memory_made c.args.over c.args.mail.now c.args.going.now c.in_ok-handles.handles c.in_ok-message.message _ (c.half_of-half.ensures.is_half ∙ ap half_of c.moment.ensures) c.in_ok-message.ensures
    (rw c.as_slice.ensures at c.in_ok-handles.ensures)
