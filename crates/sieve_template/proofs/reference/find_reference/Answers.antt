use Rattle.sieve_template.proofs.TemplateLemmas.{none_more}
use Rattle.sieve_template.proofs.reference.find_reference.Goals as goal

pub loop-place-preserved : goal.loop-place-preserved
loop-place-preserved c = none_more c.args.text.now c.args.from c.loop-place.place c.loop-place.invariant c.in_default.ensures
