-- The text so far and the lines that are left are all the lines after the text at first.
use Rattle.std.proofs.Common.{◌≡◌, ◌++◌, drop, map}
use Rattle.std.specs.List.{flat_map}
use Rattle.cli_reports.specs.Reports.{ended_line, mailbox_lines}
use Rattle.cli_reports.proofs.report.add_mailboxes.Given as goal

abbrev pub invariant-loop-copy : goal.invariant-loop-copy
invariant-loop-copy l =
    l.text ++ flat_map ended_line (mailbox_lines (drop l.copy-index l.filed)) ≡ l.initial.text ++ flat_map ended_line (mailbox_lines l.filed)
