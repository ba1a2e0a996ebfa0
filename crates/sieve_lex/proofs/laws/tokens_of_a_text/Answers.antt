use Rattle.sieve_lex.proofs.TokenLaws.{tokens_only}
use Rattle.sieve_lex.proofs.laws.tokens_of_a_text.Goals as goal

pub returns : goal.returns
returns c = tokens_only
