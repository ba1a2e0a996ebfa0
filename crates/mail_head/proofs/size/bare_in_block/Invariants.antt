use Rattle.mail_head.proofs.SizeLemmas.{IsCounted}
use Rattle.mail_head.proofs.size.bare_in_block.Given as goal

abbrev pub invariant-loop-i : goal.invariant-loop-i
invariant-loop-i l = IsCounted l.block l.i l.bare
