use Rattle.std.specs.Prelude.{is_ok}
use Rattle.smtp_send.proofs.AttemptLemmas.{stays}
use Rattle.smtp_send.proofs.run.visit.Goals as goal

pub returns-clause-reaches : goal.returns-clause-reaches
returns-clause-reaches g c = λ before shows said there.
    stays c.args.link.now.may_eight_bit (g.Q.SendQueue.shows c.hand_over-handed.new.queue) (g.Q.SendQueue.shows c.hand_over-handed.new.queue) (g.S.Server.said c.hand_over-handed.new.server)
    (g.S.Server.said c.hand_over-handed.new.server) before (is_ok c.hand_over-handed.result) (is_ok c.note_ending.result)
    (c.hand_over-handed.ensures.reaches before shows said there) (λ r s. s) (λ t s. s) c.note_ending.ensures
