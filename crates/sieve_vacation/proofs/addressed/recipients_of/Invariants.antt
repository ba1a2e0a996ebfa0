use Rattle.std.proofs.Common.{◌≡◌, take}
use Rattle.std.specs.List.{flat_map}
use Rattle.mail_head.specs.Fields.{field_text_of}
use Rattle.sieve_vacation.specs.Cases.{recipients_in}
use Rattle.sieve_vacation.proofs.addressed.recipients_of.Given as goal

abbrev pub invariant-loop-field : goal.invariant-loop-field
invariant-loop-field l = l.found ≡ flat_map (λ field. recipients_in (field_text_of field)) (take l.field-index l.fields)
