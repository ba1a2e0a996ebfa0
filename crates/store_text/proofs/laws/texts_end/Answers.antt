-- Behind the last line of one account nothing is of another.
use Rattle.store_text.proofs.ReadLemmas.{texts_same}
use Rattle.store_text.proofs.laws.texts_end.Goals as goal

pub returns : goal.returns
returns c = λ text more h g ps qs one two. (texts_same text more h g ps qs one two).0
