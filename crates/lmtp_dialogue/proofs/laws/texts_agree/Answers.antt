use Rattle.lmtp_dialogue.proofs.TextLemmas.{texts_agree}
use Rattle.lmtp_dialogue.proofs.laws.texts_agree.Goals as goal

pub returns : goal.returns
returns c = texts_agree
