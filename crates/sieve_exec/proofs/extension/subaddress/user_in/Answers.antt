use Rattle.std.proofs.Common.{◌∙◌}
use Rattle.sieve_exec.proofs.PartLemmas.{user_found, user_whole}
use Rattle.sieve_exec.proofs.extension.subaddress.user_in.Goals as goal

pub returns-in-Some : goal.returns-in-Some
returns-in-Some c = c.split_at.ensures.front ∙ user_found c.args.local.now c.in-Some.at c.in-Some.ensures.0 c.in-Some.ensures.1

pub returns-in-None : goal.returns-in-None
returns-in-None c = user_whole c.args.local.now c.in-None.ensures
