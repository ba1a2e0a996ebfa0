use Rattle.sieve_vacation.proofs.HandleLaws.{keys_tell}
use Rattle.sieve_vacation.proofs.laws.keys_of_handles.Goals as goal

pub returns : goal.returns
returns c = keys_tell
