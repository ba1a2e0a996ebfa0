use Rattle.sieve_lex.proofs.RowLemmas.{words_are}
use Rattle.sieve_lex.proofs.laws.numbers_of_a_sequence.Goals as goal

pub returns : goal.returns
returns c = words_are
