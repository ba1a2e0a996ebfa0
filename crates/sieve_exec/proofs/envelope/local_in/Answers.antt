use Rattle.std.proofs.Common.{◌∙◌}
use Rattle.sieve_exec.proofs.PartLemmas.{cuts_only, cuts_found, cuts_nowhere}
use Rattle.sieve_exec.proofs.envelope.local_in.Goals as goal

pub returns-in-Some : goal.returns-in-Some
returns-in-Some c =
    c.split_at.ensures.front
    ∙ (cuts_only c.args.address.now _ _ (cuts_found c.args.address.now c.in-Some.at c.in-Some.ensures.0 c.in-Some.ensures.1)).0

pub returns-in-None : goal.returns-in-None
returns-in-None c = (cuts_only c.args.address.now _ _ (cuts_nowhere c.args.address.now c.in-None.ensures)).0
