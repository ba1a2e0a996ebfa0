-- What fields say of their mail.
use Rattle.std.specs.Prelude.{Bool, true, [], ◌∷◌, codes}
use Rattle.mail_head.specs.Fields.{FieldText}
use Rattle.sieve_vacation.specs.declared.fields.Sign.{Sign}
use Rattle.sieve_vacation.specs.declared.fields.Sign.TheVariants.{Automatic, Suppressing, ListMail, Bulk}
use Rattle.sieve_vacation.specs.Cases.{has_value, is_automatic, is_suppressing, is_bulk, list_fields}

-- the field says this of its mail (RFC 3834, 2 and 5; RFC 2369; RFC 2919)
abbrev pub is_sign : Sign → FieldText → Bool
is_sign Automatic = has_value (codes "auto-submitted" ∷ []) is_automatic
is_sign Suppressing = has_value (codes "x-auto-response-suppress" ∷ []) is_suppressing
is_sign ListMail = has_value list_fields (λ value. true)
is_sign Bulk = has_value (codes "precedence" ∷ []) is_bulk
