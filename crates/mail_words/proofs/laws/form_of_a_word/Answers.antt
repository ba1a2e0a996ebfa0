use Rattle.mail_words.proofs.WordLaws.{word_again, word_says, word_only}
use Rattle.mail_words.proofs.laws.form_of_a_word.Goals as goal

pub returns-clause-form : goal.returns-clause-form
returns-clause-form c = λ run said. (word_says run said, word_again run said)

pub returns-clause-only : goal.returns-clause-only
returns-clause-only c = word_only
