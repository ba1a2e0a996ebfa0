-- Some lines are written so far, and they and those that are left are all.
use Rattle.std.proofs.Common.{◌≡◌, ℕ, List, ◌++◌, drop, map}
use Rattle.std.specs.List.{flat_map}
use Rattle.std.specs.Io.KnownBytes.{Appends}
use Rattle.cli_reports.specs.Reports.{ended_line}
use Rattle.cli_run.proofs.report.put_lines.Given as goal

abbrev pub invariant-loop-text : goal.invariant-loop-text
invariant-loop-text g l = (front : List ℕ) × Appends (g.W.Write.contents l.initial.output) (g.W.Write.contents l.output) front
    × (front ++ flat_map ended_line (map (λ text. l.word ++ text) (drop l.text-index l.texts)) ≡ flat_map ended_line (map (λ text. l.word ++ text) l.texts))
