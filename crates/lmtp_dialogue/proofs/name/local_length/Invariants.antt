use Rattle.lmtp_dialogue.proofs.NameLemmas.{LocalSoFar}
use Rattle.lmtp_dialogue.proofs.name.local_length.Given as goal

abbrev pub invariant-loop-at : goal.invariant-loop-at
invariant-loop-at l = LocalSoFar l.address l.at l.count l.quoting
