use Rattle.std.proofs.Common.{length}
use Rattle.lmtp_dialogue.proofs.ParameterLemmas.{SoFar}
use Rattle.lmtp_dialogue.proofs.argument.read_parameters.Given as goal

abbrev pub invariant-loop-left : goal.invariant-loop-left
invariant-loop-left l = SoFar l.rest l.left l.size

abbrev pub decreases-loop-left : goal.decreases-loop-left
decreases-loop-left l = length l.left
