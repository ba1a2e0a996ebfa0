use Rattle.std.proofs.Common.{◌≡◌, length}
use Rattle.std.specs.List.{list_all}
use Rattle.mail_words.specs.Runs.{runs_of}
use Rattle.mail_words.specs.Written.{is_written_run}
use Rattle.mail_words.proofs.written.are_written_runs.Given as goal

abbrev pub invariant-loop-rest : goal.invariant-loop-rest
invariant-loop-rest l = list_all is_written_run (runs_of l.rest) ≡ list_all is_written_run (runs_of l.text)

abbrev pub decreases-loop-rest : goal.decreases-loop-rest
decreases-loop-rest l = length l.rest
