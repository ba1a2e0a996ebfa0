use Rattle.std.proofs.Common.{◌∙◌}
use Rattle.std.proofs.Math.Seq.{drop-length}
use Rattle.sieve_exec.proofs.PartLemmas.{cuts_only, cuts_found, cuts_nowhere}
use Rattle.sieve_exec.proofs.envelope.domain_in.Goals as goal

pub returns-in-Some : goal.returns-in-Some
returns-in-Some c =
    c.split_at.ensures.back
    ∙ (cuts_only c.args.address.now _ _ (cuts_found c.args.address.now c.in-Some.at c.in-Some.ensures.0 c.in-Some.ensures.1)).1

pub returns-in-None : goal.returns-in-None
returns-in-None c =
    c.split_at-in-None.ensures.back ∙ drop-length c.args.address.now
    ∙ (cuts_only c.args.address.now _ _ (cuts_nowhere c.args.address.now c.in-None.ensures)).1
