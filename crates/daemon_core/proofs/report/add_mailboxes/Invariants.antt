-- The text so far and the lines that are left are all the lines after the text at first.
use Rattle.std.proofs.Common.{◌≡◌, ◌++◌, drop, map}
use Rattle.std.specs.List.{flat_map}
use Rattle.cli_reports.specs.Reports.{ended_line, file_line}
use Rattle.daemon_core.proofs.report.add_mailboxes.Given as goal

abbrev pub invariant-loop-mailbox : goal.invariant-loop-mailbox
invariant-loop-mailbox l =
    l.text ++ flat_map ended_line (map file_line (drop l.mailbox-index l.filed)) ≡ l.initial.text ++ flat_map ended_line (map file_line l.filed)
