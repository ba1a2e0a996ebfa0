use Rattle.std.proofs.Common.{List, ℕ, length}
use Rattle.lmtp_dialogue.specs.Copies.{LeavesPaths}
use Rattle.lmtp_dialogue.proofs.copy.without_paths.Given as goal

abbrev pub invariant-loop-line : goal.invariant-loop-line
invariant-loop-line l = (rest : List ℕ) → LeavesPaths l.left rest → LeavesPaths l.fn.text rest

abbrev pub decreases-loop-line : goal.decreases-loop-line
decreases-loop-line l = length l.left
