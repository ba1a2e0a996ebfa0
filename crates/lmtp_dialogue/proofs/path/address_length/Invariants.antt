use Rattle.lmtp_dialogue.proofs.PathLemmas.{SoFar}
use Rattle.lmtp_dialogue.proofs.path.address_length.Given as goal

abbrev pub invariant-loop-at : goal.invariant-loop-at
invariant-loop-at l = SoFar l.text l.at l.quoting
