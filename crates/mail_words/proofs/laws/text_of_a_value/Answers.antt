use Rattle.mail_words.proofs.TextLaws.{text_is, text_only}
use Rattle.mail_words.proofs.laws.text_of_a_value.Goals as goal

pub returns : goal.returns
returns c = λ value text. (text_is value text, text_only value text)
