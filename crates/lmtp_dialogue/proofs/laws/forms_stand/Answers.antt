use Rattle.lmtp_dialogue.proofs.NameLemmas.{forms_stand}
use Rattle.lmtp_dialogue.proofs.laws.forms_stand.Goals as goal

pub returns : goal.returns
returns c = forms_stand
