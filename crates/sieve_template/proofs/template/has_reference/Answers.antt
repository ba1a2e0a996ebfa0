use Rattle.sieve_template.proofs.TemplateLemmas.{has_is}
use Rattle.sieve_template.proofs.template.has_reference.Goals as goal

pub returns : goal.returns
returns c = has_is c.args.text.now c.find_reference.result c.is_some.result c.find_reference.ensures c.is_some.ensures
