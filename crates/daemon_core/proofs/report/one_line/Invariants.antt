use Rattle.std.proofs.Common.{◌≡◌, take}
use Rattle.std.specs.List.{flat_map}
use Rattle.daemon_core.specs.LmtpSteps.{joined_octet}
use Rattle.daemon_core.proofs.report.one_line.Given as goal

-- those so far are joined
abbrev pub invariant-loop-octet : goal.invariant-loop-octet
invariant-loop-octet l = l.line ≡ flat_map joined_octet (take l.octet-index l.rest)
