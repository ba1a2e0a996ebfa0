use Rattle.mail_words.proofs.PieceLaws.{pieces_only}
use Rattle.mail_words.proofs.laws.pieces_of_a_text.Goals as goal

pub returns : goal.returns
returns c = pieces_only
