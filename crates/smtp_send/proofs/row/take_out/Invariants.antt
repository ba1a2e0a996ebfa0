use Rattle.smtp_send.specs.Rows.{Rows}
use Rattle.smtp_send.proofs.row.take_out.Given as goal

abbrev pub invariant-loop : goal.invariant-loop
invariant-loop g l = (rows : Rows) → g.Q.SendQueue.shows l.initial.queue rows → g.Q.SendQueue.shows l.queue rows
