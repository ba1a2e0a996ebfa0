use Rattle.sieve_exec.proofs.PartLemmas.{cuts_of, cuts_only}
use Rattle.sieve_exec.proofs.laws.parts_of_an_address.Goals as goal

pub returns : goal.returns
returns c = record { found = cuts_of; only = cuts_only }
