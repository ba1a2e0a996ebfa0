-- The text so far and the lines that are left are all the lines after the text at first.
use Rattle.std.proofs.Common.{◌≡◌, ◌++◌, drop, map}
use Rattle.std.specs.List.{flat_map}
use Rattle.cli_reports.specs.Reports.{ended_line, send_line}
use Rattle.daemon_core.proofs.report.add_addresses.Given as goal

abbrev pub invariant-loop-target : goal.invariant-loop-target
invariant-loop-target l =
    l.text ++ flat_map ended_line (map send_line (drop l.target-index l.sent)) ≡ l.initial.text ++ flat_map ended_line (map send_line l.sent)
