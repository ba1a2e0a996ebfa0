-- Where no number is parsed, none is written without zeros in front.
use Rattle.std.proofs.Common.{sym}
use Rattle.store_text.proofs.NumberLemmas.{number_lost}
use Rattle.store_text.proofs.netstring.number_of.Goals as goal

pub returns-in_default : goal.returns-in_default
returns-in_default c = sym (number_lost c.args.text.now c.in_default.ensures)
