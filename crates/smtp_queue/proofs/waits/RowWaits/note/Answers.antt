-- A wait was put there, or taken away.
use Rattle.std.proofs.Common.{None, Some, sym, ap, ◌∙◌}
use Rattle.smtp_queue.specs.Waits.{wait_after}
use Rattle.smtp_queue.proofs.WaitLemmas.{noted, on_ok}
use Rattle.smtp_queue.proofs.waits.RowWaits.note.Goals as goal

pub returns-in-None-clause-noted : goal.returns-in-None-clause-noted
returns-in-None-clause-noted c =
    noted c.args.place c.args.ending c.args.moment c.args.self.now (record { map = c.remove.new.self }) None c.remove.ensures.updates
    (sym c.in-None.is ∙ c.wait_after.ensures ∙ ap (λ t. wait_after t c.args.ending c.args.moment) c.tries_of.ensures)

pub returns-in-Some-clause-noted : goal.returns-in-Some-clause-noted
returns-in-Some-clause-noted c =
    on_ok c.put.result c.put.ensures.updates (λ updates. noted c.args.place c.args.ending c.args.moment c.args.self.now c.put.new.self (Some c.in-Some.wait) updates
    (sym c.in-Some.is ∙ c.wait_after.ensures ∙ ap (λ t. wait_after t c.args.ending c.args.moment) c.tries_of.ensures))
