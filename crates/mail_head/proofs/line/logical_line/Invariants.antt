use Rattle.std.proofs.Common.{length}
use Rattle.mail_head.proofs.FoldLemmas.{IsFolded}
use Rattle.mail_head.proofs.line.logical_line.Given as goal

abbrev pub invariant-loop-after : goal.invariant-loop-after
invariant-loop-after l = IsFolded l.text l.after

abbrev pub decreases-loop-after : goal.decreases-loop-after
decreases-loop-after l = length l.after
