use Rattle.std.proofs.Common.{ap, ◌∙◌}
use Rattle.std.proofs.lemmas.List.{take_all}
use Rattle.sieve_template.specs.Values.{quoted_text}
use Rattle.sieve_template.proofs.modifier.quote_all.Goals as goal

pub returns : goal.returns
returns c = c.loop-octet.invariant ∙ ap quoted_text (take_all c.loop-octet.octet-index c.args.text.now c.loop-octet-test.false)
