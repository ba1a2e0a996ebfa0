-- The text so far and the lines that are left are all the lines.
use Rattle.std.proofs.Common.{◌≡◌, ◌++◌, drop, map}
use Rattle.cli_reports.specs.Listings.{notice_line}
use Rattle.cli_run.specs.AllUsers.{named_lines}
use Rattle.cli_run.proofs.all_queues.add_notices.Given as goal

abbrev pub invariant-loop-notice : goal.invariant-loop-notice
invariant-loop-notice l = l.text ++ named_lines l.name (map notice_line (drop l.notice-index l.notices)) ≡ l.fn.text ++ named_lines l.name (map notice_line l.notices)
