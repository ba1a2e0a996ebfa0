use Rattle.lmtp_dialogue.proofs.ReplyLemmas.{replies_are_lines}
use Rattle.lmtp_dialogue.proofs.laws.replies_are_lines.Goals as goal

pub returns : goal.returns
returns c = replies_are_lines
