use Rattle.mail_address.proofs.DotLaws.{dotted_is, is_dotted_again}
use Rattle.mail_address.proofs.laws.atoms_with_dots.Goals as goal

pub returns : goal.returns
returns c = λ text. (dotted_is text, is_dotted_again text)
