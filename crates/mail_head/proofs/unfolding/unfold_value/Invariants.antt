use Rattle.std.proofs.Common.{◌≡◌, ◌++◌, length}
use Rattle.mail_head.specs.Lines.{lines_of}
use Rattle.mail_head.specs.Heads.{unfolded_lines, unfold_of}
use Rattle.mail_head.proofs.unfolding.unfold_value.Given as goal

abbrev pub invariant-loop-rest : goal.invariant-loop-rest
invariant-loop-rest l = l.value.items ++ unfolded_lines (lines_of l.rest) ≡ unfold_of l.raw

abbrev pub decreases-loop-rest : goal.decreases-loop-rest
decreases-loop-rest l = length l.rest
