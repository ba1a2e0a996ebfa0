-- The text so far and the lines that are left are all the lines.
use Rattle.std.proofs.Common.{◌≡◌, ◌++◌, drop, map}
use Rattle.std.specs.List.{flat_map}
use Rattle.cli_reports.specs.Listings.{notice_line}
use Rattle.cli_reports.specs.Reports.{ended_line}
use Rattle.cli_reports.proofs.listing.list_user_notices.Given as goal

abbrev pub invariant-loop-notice : goal.invariant-loop-notice
invariant-loop-notice l = l.text ++ flat_map ended_line (map notice_line (drop l.notice-index l.notices)) ≡ flat_map ended_line (map notice_line l.notices)
