use Rattle.lmtp_dialogue.proofs.FeedLemmas.{finished, not_kept}
use Rattle.lmtp_dialogue.proofs.message_text.Text.finish.Goals as goal

pub returns-in-None : goal.returns-in-None
returns-in-None c = λ sent stands. finished c.args.self sent c.requires c.in-None.is stands

pub returns-in-Some : goal.returns-in-Some
returns-in-Some c = λ sent stands. not_kept c.args.self sent c.in-Some.fault c.requires c.in-Some.is stands
