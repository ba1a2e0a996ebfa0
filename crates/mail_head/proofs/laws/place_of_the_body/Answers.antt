use Rattle.mail_head.proofs.CutLemmas.{body_placed}
use Rattle.mail_head.proofs.laws.place_of_the_body.Goals as goal

pub returns : goal.returns
returns c = body_placed
