-- The place came from the start, and no account changed.
use Rattle.sqlite.specs.Held.{state}
use Rattle.smtp_queue.specs.DueRows.{QueueWorks}
use Rattle.smtp_queue.proofs.StoreLemmas.{StepsTo}
use Rattle.smtp_queue.proofs.due_row.find_due_row.Given as goal

abbrev pub invariant-loop : goal.invariant-loop
invariant-loop g l = QueueWorks (StepsTo l.waits l.now l.fn.start l.place) (state g.S.Store l.initial.store) (state g.S.Store l.store)
