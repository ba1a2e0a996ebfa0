use Rattle.std.proofs.Common.{◌∙◌}
use Rattle.sieve_vacation.specs.Cases.{recipients_in}
use Rattle.sieve_vacation.proofs.FieldLemmas.{fields_flat}
use Rattle.sieve_vacation.proofs.addressed.AddressedMail.read.Goals as goal

pub invariant_of-result : goal.invariant_of-result
invariant_of-result c = c.in_ok-recipients.ensures ∙ fields_flat recipients_in c.fields.result.now _ c.fields.ensures
