use Rattle.mail_head.proofs.FrontLemmas.{fields_in_front}
use Rattle.mail_head.proofs.prefix_laws.fields_of_a_front.Goals as goal

pub returns : goal.returns
returns c = fields_in_front
