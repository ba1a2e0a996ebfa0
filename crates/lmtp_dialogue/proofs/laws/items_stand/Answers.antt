use Rattle.lmtp_dialogue.proofs.DialogueLemmas.{items_stand}
use Rattle.lmtp_dialogue.proofs.laws.items_stand.Goals as goal

pub returns : goal.returns
returns c = items_stand
