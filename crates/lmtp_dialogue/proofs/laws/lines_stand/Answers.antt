use Rattle.lmtp_dialogue.proofs.LineLemmas.{lines_stand}
use Rattle.lmtp_dialogue.proofs.laws.lines_stand.Goals as goal

pub returns : goal.returns
returns c = lines_stand
