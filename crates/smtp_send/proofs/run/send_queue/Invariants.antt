use Rattle.std.proofs.Common.{◌≡◌, true}
use Rattle.smtp_send.specs.Attempts.{RunReaches, SendState}
use Rattle.smtp_send.proofs.run.send_queue.Given as goal

abbrev pub invariant-loop : goal.invariant-loop
invariant-loop g l =
    (l.link.may_eight_bit ≡ l.may_eight_bit)
    × ((before : SendState) → g.Q.SendQueue.shows l.initial.queue before.rows → g.S.Server.said l.initial.server before.talk
    → RunReaches l.may_eight_bit (g.Q.SendQueue.shows l.queue) (g.S.Server.said l.server) before true)
