-- The text so far and the lines that are left are all the lines after the text at first.
use Rattle.std.proofs.Common.{◌≡◌, ◌++◌, drop, map}
use Rattle.std.specs.List.{flat_map}
use Rattle.mail_address.specs.Spelling.{address_spelling}
use Rattle.cli_reports.specs.Reports.{ended_line, target_lines}
use Rattle.cli_reports.proofs.report.add_targets.Given as goal

abbrev pub invariant-loop-target : goal.invariant-loop-target
invariant-loop-target l =
    l.text ++ flat_map ended_line (target_lines (drop l.target-index l.sent)) ≡ l.initial.text ++ flat_map ended_line (target_lines l.sent)
