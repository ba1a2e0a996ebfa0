use Rattle.std.proofs.Common.{refl, true, false, ◌∙◌}
use Rattle.smtp_send.specs.Rows.{Rows, IsThere}
use Rattle.smtp_send.proofs.AttemptLemmas.{nothing, then_row, row_there}
use Rattle.smtp_send.proofs.run.send_queue.Goals as goal

pub loop-init : goal.loop-init
loop-init g c = (refl, λ before shows said. nothing c.args.may_eight_bit (g.Q.SendQueue.shows c.args.queue.now) (g.S.Server.said c.args.server.now) before true shows said)

pub returns-in-Err : goal.returns-in-Err
returns-in-Err g c = λ before shows said.
    then_row c.args.may_eight_bit c.loop.link.may_eight_bit (g.Q.SendQueue.shows c.loop.queue) (g.Q.SendQueue.shows c.make_way.new.queue) (g.Q.SendQueue.shows c.visit.new.queue)
    (g.S.Server.said c.loop.server) (g.S.Server.said c.visit.new.server) before false c.in-Some.row c.loop.invariant.0 (c.loop.invariant.1 before shows said) (λ rows had. c.make_way.ensures rows (c.read_next.ensures.same rows had))
    (row_there (λ row. (rows : Rows) → g.Q.SendQueue.shows c.loop.queue rows → IsThere row rows) c.in_ok-row.field-0 c.in-Some.row c.in-Some.is c.in_ok-row.ensures.there)
    c.in-Err.ensures.reaches

pub loop-preserved : goal.loop-preserved
loop-preserved g c = (
  c.visit.ensures.may ∙ c.loop.invariant.0,
  λ before shows said.
      then_row c.args.may_eight_bit c.loop.link.may_eight_bit (g.Q.SendQueue.shows c.loop.queue) (g.Q.SendQueue.shows c.make_way.new.queue) (g.Q.SendQueue.shows c.visit.new.queue)
      (g.S.Server.said c.loop.server) (g.S.Server.said c.visit.new.server) before true c.in-Some.row c.loop.invariant.0 (c.loop.invariant.1 before shows said) (λ rows had. c.make_way.ensures rows (c.read_next.ensures.same rows had))
      (row_there (λ row. (rows : Rows) → g.Q.SendQueue.shows c.loop.queue rows → IsThere row rows) c.in_ok-row.field-0 c.in-Some.row c.in-Some.is c.in_ok-row.ensures.there)
      c.in-Ok.ensures.reaches,
)
