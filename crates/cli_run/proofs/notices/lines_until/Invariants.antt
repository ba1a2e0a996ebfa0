use Rattle.std.proofs.Common.{◌≡◌}
use Rattle.cli_run.specs.Subcommands.{notices_until}
use Rattle.cli_run.proofs.notices.lines_until.Given as goal

abbrev pub invariant-loop-notice : goal.invariant-loop-notice
invariant-loop-notice l = l.early ≡ notices_until l.fn.until l.yielded
