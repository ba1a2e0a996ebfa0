use Rattle.smtp_dialogue.proofs.SentLemmas.{sent_stands}
use Rattle.smtp_dialogue.proofs.laws.sent_stands.Goals as goal

pub returns : goal.returns
returns c = sent_stands
