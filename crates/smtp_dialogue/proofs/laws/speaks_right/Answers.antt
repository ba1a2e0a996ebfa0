use Rattle.smtp_dialogue.proofs.DialogueLemmas.{speaks_right}
use Rattle.smtp_dialogue.proofs.laws.speaks_right.Goals as goal

pub returns : goal.returns
returns c = speaks_right
