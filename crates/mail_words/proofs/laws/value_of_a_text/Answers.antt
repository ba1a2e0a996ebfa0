use Rattle.mail_words.proofs.PieceLaws.{one_value}
use Rattle.mail_words.proofs.laws.value_of_a_text.Goals as goal

pub returns : goal.returns
returns c = one_value
