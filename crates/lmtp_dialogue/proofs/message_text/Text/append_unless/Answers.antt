use Rattle.lmtp_dialogue.proofs.FeedLemmas.{keeps_same, not_but}
use Rattle.lmtp_dialogue.proofs.message_text.Text.append_unless.Goals as goal

pub returns-then-octet-but-clause-keeps : goal.returns-then-octet-but-clause-keeps
returns-then-octet-but-clause-keeps c =
    keeps_same c.args.self.now c.append.new.self _ _ (not_but c.args.octet c.args.but c.if-octet-but.true) c.append.ensures.keeps
