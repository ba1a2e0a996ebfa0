-- The text so far and the lines that are left are all the lines.
use Rattle.std.proofs.Common.{◌≡◌, ◌++◌, drop, map}
use Rattle.std.specs.List.{flat_map}
use Rattle.cli_reports.specs.Listings.{queue_line}
use Rattle.cli_reports.specs.Reports.{ended_line}
use Rattle.cli_reports.proofs.listing.list_queue.Given as goal

abbrev pub invariant-loop-row : goal.invariant-loop-row
invariant-loop-row l = l.text ++ flat_map ended_line (map queue_line (drop l.row-index l.rows)) ≡ flat_map ended_line (map queue_line l.rows)
