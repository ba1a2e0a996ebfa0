use Rattle.sieve_exec.proofs.NameLemmas.{names_nothing}
use Rattle.sieve_exec.proofs.laws.invalid_names.Goals as goal

pub returns : goal.returns
returns c = names_nothing
