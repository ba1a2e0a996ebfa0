use Rattle.sieve_syntax.proofs.LanguageLaws.{still_means}
use Rattle.sieve_syntax.proofs.laws.scripts_of_a_smaller_language.Goals as goal

pub returns : goal.returns
returns c = still_means
