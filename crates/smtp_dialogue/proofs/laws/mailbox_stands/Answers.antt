use Rattle.smtp_dialogue.proofs.ShownLemmas.{mailbox_stands}
use Rattle.smtp_dialogue.proofs.laws.mailbox_stands.Goals as goal

pub returns : goal.returns
returns c = mailbox_stands
