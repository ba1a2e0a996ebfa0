use Rattle.mail_words.proofs.WrittenLaws.{written_said, one_written}
use Rattle.mail_words.proofs.laws.written_text_said.Goals as goal

pub returns-clause-said : goal.returns-clause-said
returns-clause-said c = written_said

pub returns-clause-only : goal.returns-clause-only
returns-clause-only c = one_written
