use Rattle.std.proofs.Common.{◌≡◌, IsTrue}
use Rattle.maildir_files.specs.Kept.{StaysPlaced}
use Rattle.maildir_moves.proofs.load.Load.make_ways.Given as goal

abbrev pub invariant-loop-count : goal.invariant-loop-count
invariant-loop-count g l = StaysPlaced g.T.MailSink.keeps_at l.initial.sink l.sink × (IsTrue g.T.MailSink.tells → g.T.MailSink.kept l.sink ≡ g.T.MailSink.kept l.initial.sink)
