use Rattle.std.proofs.Common.{subst, false, true, Ok, Err}
use Rattle.smtp_send.specs.Attempts.{RunReaches}
use Rattle.smtp_send.proofs.AttemptLemmas.{nothing, one_row}
use Rattle.smtp_send.proofs.run.hand_over.Goals as goal

pub returns-in_default-clause-reaches : goal.returns-in_default-clause-reaches
returns-in_default-clause-reaches g c = λ before shows said there.
    nothing c.args.link.now.may_eight_bit (g.Q.SendQueue.shows c.offered_for.new.queue) (g.S.Server.said c.offered_for.new.server) before false (c.offered_for.ensures.rows before.rows shows) (c.offered_for.ensures.kept before.talk said)

pub returns-in-Ok-clause-reaches : goal.returns-in-Ok-clause-reaches
returns-in-Ok-clause-reaches g c = λ before shows said there.
    let it = c.in-Ok.ensures before (c.offered_for.ensures.rows before.rows shows) (c.offered_for.ensures.kept before.talk said) in
    subst (λ m. RunReaches m (g.Q.SendQueue.shows c.settle.new.queue) (g.S.Server.said c.settle.new.server) before true) c.offered_for.ensures.may
    (one_row c.offered_for.new.link.may_eight_bit (g.Q.SendQueue.shows c.settle.new.queue) (g.S.Server.said c.settle.new.server) c.in-Some.offered c.args.row.now before it.0 (Ok c.in-Ok.ending)
    there (c.settle.ensures.rows it.0.rows it.1) (c.settle.ensures.kept it.0.talk it.2) it.3)

pub returns-in-Err-clause-reaches : goal.returns-in-Err-clause-reaches
returns-in-Err-clause-reaches g c = λ before shows said there.
    let it = c.in-Err.ensures before (c.offered_for.ensures.rows before.rows shows) (c.offered_for.ensures.kept before.talk said) in
    subst (λ m. RunReaches m (g.Q.SendQueue.shows c.send_row.new.queue) (g.S.Server.said c.send_row.new.server) before false) c.offered_for.ensures.may
    (one_row c.offered_for.new.link.may_eight_bit (g.Q.SendQueue.shows c.send_row.new.queue) (g.S.Server.said c.send_row.new.server) c.in-Some.offered c.args.row.now before it.0 (Err c.in-Err.stop)
    there it.1 it.2 it.3)
