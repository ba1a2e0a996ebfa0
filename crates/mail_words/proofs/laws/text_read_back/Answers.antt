use Rattle.mail_words.proofs.AlphabetLemmas.{standard_alphabet}
use Rattle.mail_words.proofs.ReadBackLemmas.{read_back}
use Rattle.mail_words.proofs.laws.text_read_back.Goals as goal

pub returns-clause-alphabet : goal.returns-clause-alphabet
returns-clause-alphabet c = standard_alphabet

pub returns-clause-back : goal.returns-clause-back
returns-clause-back c = read_back
