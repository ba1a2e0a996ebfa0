use Rattle.sieve_lex.proofs.SequenceLemmas.{sequence_read, sequence_found}
use Rattle.sieve_lex.proofs.laws.sequences_of_the_grammar.Goals as goal

pub returns : goal.returns
returns c = record { read = λ coding s rest words is. sequence_read coding s rest words is; only = sequence_found }
