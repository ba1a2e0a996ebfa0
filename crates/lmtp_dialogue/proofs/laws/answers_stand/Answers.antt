use Rattle.lmtp_dialogue.proofs.ReadingLemmas.{answers_stand}
use Rattle.lmtp_dialogue.proofs.laws.answers_stand.Goals as goal

pub returns : goal.returns
returns c = answers_stand
