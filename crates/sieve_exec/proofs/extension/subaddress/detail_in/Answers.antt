use Rattle.std.proofs.Common.{◌∙◌, ap, sym, Some}
use Rattle.sieve_exec.proofs.PartLemmas.{detail_found, detail_absent}
use Rattle.sieve_exec.proofs.extension.subaddress.detail_in.Goals as goal

pub returns-in-Some : goal.returns-in-Some
returns-in-Some c = detail_found c.args.local.now c.in-Some.at c.in-Some.ensures.0 c.in-Some.ensures.1 ∙ ap Some (sym c.split_at.ensures.back)

pub returns-in-None : goal.returns-in-None
returns-in-None c = detail_absent c.args.local.now c.in-None.ensures
