-- The text so far and the lines that are left are all the lines.
use Rattle.std.proofs.Common.{◌≡◌, ◌++◌, drop, map}
use Rattle.cli_reports.specs.Listings.{queue_line}
use Rattle.cli_run.specs.AllUsers.{named_lines}
use Rattle.cli_run.proofs.all_queues.add_queue.Given as goal

abbrev pub invariant-loop-row : goal.invariant-loop-row
invariant-loop-row l = l.text ++ named_lines l.name (map queue_line (drop l.row-index l.rows)) ≡ l.fn.text ++ named_lines l.name (map queue_line l.rows)
