-- As many messages moved as there were turns.
use Rattle.std.proofs.Common.{ℕ, List, true}
use Rattle.sqlite.specs.Held.{state}
use Rattle.cli_run.specs.Draining.{GrowsBy, Moved, MovesMail}
use Rattle.cli_run.proofs.drain.move_all.Given as goal

abbrev pub invariant-loop-moved : goal.invariant-loop-moved
invariant-loop-moved g l =
    let Grew = GrowsBy l.user l.folder g.T.MailSink.tells (g.T.MailSink.kept l.initial.sink) (g.T.MailSink.kept l.sink) in
    record {
      moves : MovesMail l.user l.folder Grew true (Moved l.user l.folder Grew l.moved) (state g.S.Store l.initial.store) (state g.S.Store l.store);
      stays : (path : List ℕ) → g.T.MailSink.is_at l.initial.sink path → g.T.MailSink.is_at l.sink path;
    }
