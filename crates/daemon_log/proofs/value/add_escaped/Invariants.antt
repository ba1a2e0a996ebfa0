use Rattle.std.proofs.Common.{◌≡◌, ◌++◌, length}
use Rattle.daemon_log.specs.Values.{escaped}
use Rattle.daemon_log.proofs.value.add_escaped.Given as goal

abbrev pub invariant-loop-octet : goal.invariant-loop-octet
invariant-loop-octet l = l.line ++ escaped l.rest ≡ l.fn.line ++ escaped l.value

abbrev pub decreases-loop-octet : goal.decreases-loop-octet
decreases-loop-octet l = length l.rest
