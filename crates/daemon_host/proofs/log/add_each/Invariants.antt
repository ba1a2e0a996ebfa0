-- The line with a pair for each value that is left is the line at first with a pair for each value.
use Rattle.std.proofs.Common.{◌≡◌, drop, map}
use Rattle.daemon_log.specs.Lines.{pair, with_pairs}
use Rattle.daemon_host.proofs.log.add_each.Given as goal

abbrev pub invariant-loop-value : goal.invariant-loop-value
invariant-loop-value l =
    with_pairs l.line (map (pair l.name) (drop l.value-index l.values)) ≡ with_pairs l.initial.line (map (pair l.name) l.values)
