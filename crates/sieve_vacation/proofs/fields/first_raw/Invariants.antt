use Rattle.std.proofs.Common.{◌≡◌, drop}
use Rattle.mail_head.specs.Fields.{field_texts_of}
use Rattle.sieve_vacation.specs.Layout.{first_raw}
use Rattle.sieve_vacation.proofs.fields.first_raw.Given as goal

abbrev pub invariant-loop-field : goal.invariant-loop-field
invariant-loop-field l = first_raw l.name (field_texts_of (drop l.field-index l.fields)) ≡ first_raw l.name (field_texts_of l.fields)
