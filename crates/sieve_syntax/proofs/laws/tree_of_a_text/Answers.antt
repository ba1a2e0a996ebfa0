use Rattle.sieve_syntax.proofs.MeansLaws.{means_only}
use Rattle.sieve_syntax.proofs.laws.tree_of_a_text.Goals as goal

pub returns : goal.returns
returns c = means_only
