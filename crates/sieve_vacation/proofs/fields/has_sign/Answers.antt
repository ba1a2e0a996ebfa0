use Rattle.std.proofs.Common.{◌∙◌}
use Rattle.sieve_vacation.specs.Signs.{is_sign}
use Rattle.sieve_vacation.proofs.FieldLemmas.{fields_any}
use Rattle.sieve_vacation.proofs.fields.has_sign.Goals as goal

pub returns : goal.returns
returns c = c.some_says.ensures ∙ fields_any (is_sign c.args.sign) c.fields.result.now _ c.fields.ensures
