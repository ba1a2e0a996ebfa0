use Rattle.sieve_lex.proofs.CommentLemmas.{ends_at, ends_nowhere}
use Rattle.sieve_lex.proofs.space.comment_len.Goals as goal

pub returns-in-Some-clause-goes_on : goal.returns-in-Some-clause-goes_on
returns-in-Some-clause-goes_on c = ends_at c.args.octets.now c.in-Some.at c.in-Some.ensures

pub returns-in-None-clause-goes_on : goal.returns-in-None-clause-goes_on
returns-in-None-clause-goes_on c = ends_nowhere c.args.octets.now c.in-None.ensures
